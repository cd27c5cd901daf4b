-- What a JSON text is, once its white space is looked at.
use Rattle.std.proofs.Common.{◌≡◌, ℕ, Bool, true, false, cond, List, Some, None, option_and_then, refl, ap, ◌∙◌}
use Rattle.std.specs.Str.{IsUtf8, is_utf8}
use Rattle.std.proofs.lemmas.Str.{IsUtf8-from_is_utf8, is_utf8-from_IsUtf8}
use Rattle.serde_json.specs.Data.{Data}
use Rattle.serde_json.specs.Read.{read}
use Rattle.event_lines.specs.Values.{begins_white, ends_white, value_from, json_value}

json_at : (text : List ℕ) (u : Bool) → begins_white text ≡ false → ends_white text ≡ false → is_utf8 text ≡ u → json_value text ≡ cond u (option_and_then value_from (read text)) None
unfolding json_value
json_at text true b e h = rw (b, e, h) refl
json_at text false b e h = rw (b, e, h) refl

pub json_utf8 : (text : List ℕ) → begins_white text ≡ false → ends_white text ≡ false → IsUtf8 text → json_value text ≡ option_and_then value_from (read text)
json_utf8 text b e h = json_at text true b e (is_utf8-from_IsUtf8 text h)

pub json_read : (text : List ℕ) (d : Data) → begins_white text ≡ false → ends_white text ≡ false → IsUtf8 text → read text ≡ Some d → json_value text ≡ value_from d
json_read text d b e h is = json_utf8 text b e h ∙ ap (option_and_then value_from) is

pub json_other : (text : List ℕ) → begins_white text ≡ false → ends_white text ≡ false → (IsUtf8 text → ⊥) → json_value text ≡ None
json_other text b e other =
    let P : Bool → Type 0 = λ u. is_utf8 text ≡ u → cond u (option_and_then value_from (read text)) None ≡ None in
    let each : (u : Bool) → P u = λ u. elim u as P [ true ↦ λ h. absurd (other (IsUtf8-from_is_utf8 text h)) | false ↦ λ _. refl ] in
    json_at text (is_utf8 text) b e refl ∙ each (is_utf8 text) refl
