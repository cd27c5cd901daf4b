-- The text is UTF-8, or no JSON.
use Rattle.std.proofs.Common.{◌≡◌, IfOk, ◌∙◌, sym, ap, subst}
use Rattle.serde_json.specs.Read.{read}
use Rattle.serde_json.specs.View.{view}
use Rattle.event_lines.proofs.JsonTexts.{json_read, json_other}
use Rattle.event_lines.proofs.request.values.json_value.Goals as goal

pub returns-in_default-from_utf8 : goal.returns-in_default-from_utf8
returns-in_default-from_utf8 c =
    sym (json_other c.args.text.now (sym c.begins_white.ensures ∙ c.if-begins_white.false) (sym c.ends_white.ensures ∙ c.if-ends_white.false) c.in_default-from_utf8.ensures.cases.0)

pub returns-in-Ok-from_str : goal.returns-in-Ok-from_str
returns-in-Ok-from_str c =
    let same = json_read c.args.text.now (view c.in-Ok-from_str.json) (sym c.begins_white.ensures ∙ c.if-begins_white.false) (sym c.ends_white.ensures ∙ c.if-ends_white.false) c.in-Ok.ensures.cases.1 (ap read (sym c.in-Ok.ensures.cases.0) ∙ c.in-Ok-from_str.ensures.ok) in
    subst (λ v. IfOk c.value_from.result (λ r. r ≡ v)) (sym same) c.value_from.ensures
