use Rattle.std.proofs.Common.{rules, ◌++◌, ap, sym, ◌∙◌, append_assoc, lit<, string_bytes}
use Rattle.std.proofs.lemmas.Result.{on_ok_weaker}
use Rattle.script_desk.proofs.Cuts.{not_empty, replies_line, replies_step}
use Rattle.script_desk.specs.Naming.{prefixed, reply_lines}
use Rattle.script_desk.proofs.naming.push_reply.Goals as goal

pub loop-line-preserved : goal.loop-line-preserved
loop-line-preserved c = record {
  same =
      let cut = c.in-Some.ensures.byte (lit< tt) (λ w o h. h) in
      let name = c.args.name.now in
      let out = string_bytes c.loop-line.out in
      ap (λ t. t ++ reply_lines name c.in-Some.behind.now) c.in_ok-push_line.ensures.ok
      ∙ append_assoc out (prefixed name c.in-Some.line.now) (reply_lines name c.in-Some.behind.now)
      ∙ ap (λ t. out ++ t) (replies_step name c.loop-line.rest.now c.in-Some.line.now c.in-Some.behind.now cut.2 cut.0 cut.1)
      ∙ c.loop-line.invariant.same;
  text = search rules;
}

pub returns : goal.returns
returns c = record {
  ok =
      let whole = (c.in_default.ensures.byte (lit< tt) (λ w o h. h)) in
      on_ok_weaker c.push_line-2.result
      (λ e. e ∙ ap (λ t. string_bytes c.loop-line.out ++ t) (replies_line c.args.name.now c.loop-line.rest.now whole (not_empty c.loop-line.rest.now (sym c.is_empty.ensures ∙ c.if-is_empty.false))) ∙ c.loop-line.invariant.same)
      c.push_line-2.ensures.ok;
}
