use Rattle.std.proofs.Common.{List, [], ◌∷◌, ◌++◌, sym, ap, subst, ◌∙◌, is_ok}
use Rattle.std.specs.Str.{IsUtf8}
use Rattle.std.specs.String.{string_bytes}
use Rattle.std.proofs.lemmas.Bool.{false≢true}
use Rattle.std.proofs.lemmas.Result.{on_ok_weaker}
use Rattle.std.proofs.lemmas.Str.{IsUtf8-append, IsUtf8-string_bytes}
use Rattle.json.specs.Print.{print, quoted}
use Rattle.json.specs.Token.{string}
use Rattle.query_reply.proofs.Quoted.{printed}
use Rattle.query_reply.proofs.push_faults.push_quoted.Goals as goal

-- a text and what is written behind it are a text
pub unreachable-requires : goal.unreachable-requires
unreachable-requires c =
    let front = IsUtf8-string_bytes c.replace-before.result in
    let whole = IsUtf8-append _ _ front c.into_inner.ensures.utf8 in
    let before = c.string-written.ensures.room.0 ∙ c.new-writer.ensures.before ∙ ap (λ v. v.items) c.into_bytes.ensures.value in
    let is = c.into_inner.ensures.items ∙ ap (λ (b : List _). b ++ print c.string-written.new.self.tokens) before in
    false≢true (sym (ap is_ok c.in-Err.is) ∙ c.from_utf8.ensures.succeeds (subst IsUtf8 (sym is) whole))

pub returns : goal.returns
returns c = record {
  ok = on_ok_weaker c.string-written.result
      (λ tokens. ap (λ v. v.items) c.in-Ok.ensures.ok ∙ c.into_inner.ensures.items
      ∙ ap (λ b. b ++ print c.string-written.new.self.tokens) (c.string-written.ensures.room.0 ∙ c.new-writer.ensures.before ∙ ap (λ v. v.items) c.into_bytes.ensures.value ∙ ap string_bytes c.replace-before.ensures.value)
      ∙ ap (λ ts. string_bytes c.args.out.now ++ print ts) (tokens ∙ ap (λ ts. ts ++ string c.as_str.result.now ∷ []) c.new-writer.ensures.tokens)
      ∙ ap (λ b. string_bytes c.args.out.now ++ b) (printed c.as_str.result.now)
      ∙ ap (λ s. string_bytes c.args.out.now ++ quoted s) c.as_str.ensures.text)
      c.string-written.ensures.ok;
}
