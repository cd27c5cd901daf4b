-- The lines that are gone, and the bytes that hold them.
use Rattle.std.proofs.Common.{◌≡◌, ◌≢◌, ◌⊎◌, ℕ, ◌+◌, List, [], ◌∷◌, ◌++◌, length, take, refl, sym, ap, ◌∙◌, arith, inl, inr}
use Rattle.std.proofs.lemmas.List.{append_assoc, append-nil, length-append, nil_from_length}
use Rattle.std.proofs.Math.Seq.{take-append-add}
use Rattle.wire_line.specs.declared.line.TheConstants.{INPUT_LIMIT}
use Rattle.wire_line.specs.Intake.{GoesPast}
use Rattle.wire_line.specs.Lines.{lines_of, ended_lines, first_line, after_line, HasNoEnd}
use Rattle.wire_line.proofs.LineLists.{ended_lines-none, ended_lines-first}
use Rattle.wire_line.proofs.FirstLine.{first_line-first_line}

-- The bytes that are gone hold these lines, each with its line end; or the last lacks it, and nothing is ahead.
pub record Gone (list : List ℕ) (given : List (List ℕ)) (ahead : List ℕ) : Type 0 where
  pub gone : List ℕ
  pub stream : list ≡ gone ++ ahead
  pub ended : ((more : List ℕ) → ended_lines (gone ++ more) ≡ given ++ ended_lines more) ⊎ (ahead ≡ [])

pub gone_none : (list ahead : List ℕ) → ahead ≡ list → Gone list [] ahead
gone_none list ahead all = record { gone = []; stream = sym all; ended = inl (λ more. refl) }

ended_more : (gone ahead : List ℕ) (given : List (List ℕ)) → ahead ≢ [] → ((more : List ℕ) → ended_lines (gone ++ more) ≡ given ++ ended_lines more) ⊎ (ahead ≡ [])
    → (more : List ℕ) → ended_lines ((gone ++ (first_line ahead ++ 10 ∷ [])) ++ more) ≡ (given ++ first_line ahead ∷ []) ++ ended_lines more
ended_more gone ahead given there (inl ended) more =
    ap ended_lines (append_assoc gone (first_line ahead ++ 10 ∷ []) more ∙ ap (λ (x : List ℕ). gone ++ x) (append_assoc (first_line ahead) (10 ∷ []) more))
    ∙ ended (first_line ahead ++ 10 ∷ more)
    ∙ ap (λ (x : List (List ℕ)). given ++ x) (ended_lines-first (first_line ahead) more (first_line-first_line ahead))
    ∙ sym (append_assoc given (first_line ahead ∷ []) (ended_lines more))
ended_more gone ahead given there (inr empty) more = absurd (there empty)

pub gone_split : (list ahead rest : List ℕ) (given : List (List ℕ)) → (g : Gone list given ahead) → ahead ≢ [] → rest ≡ after_line ahead
    → (HasNoEnd ahead × (after_line ahead ≡ [])) ⊎ (ahead ≡ first_line ahead ++ 10 ∷ after_line ahead) → Gone list (given ++ first_line ahead ∷ []) rest
gone_split list ahead rest given g there behind (inl none) =
    let nothing : rest ≡ [] = behind ∙ none.1 in
    record {
      gone = g.gone ++ ahead;
      stream = g.stream ∙ sym (ap (λ (x : List ℕ). (g.gone ++ ahead) ++ x) nothing ∙ append-nil (g.gone ++ ahead));
      ended = inr nothing;
    }
gone_split list ahead rest given g there behind (inr is) = record {
  gone = g.gone ++ (first_line ahead ++ 10 ∷ []);
  stream = g.stream ∙ ap (λ (x : List ℕ). g.gone ++ x) (is ∙ ap (λ (x : List ℕ). first_line ahead ++ 10 ∷ x) (sym behind) ∙ sym (append_assoc (first_line ahead) (10 ∷ []) rest))
      ∙ sym (append_assoc g.gone (first_line ahead ++ 10 ∷ []) rest);
  ended = inl (ended_more g.gone ahead given there g.ended);
}

-- at a failure of the source
pub ended_at : (list : List ℕ) (given : List (List ℕ)) (ahead dropped waiting rest : List ℕ) → (g : Gone list given ahead)
    → lines_of list ≡ given ++ lines_of ahead → ahead ≡ dropped ++ (waiting ++ rest) → HasNoEnd (dropped ++ waiting)
    → ((more : List ℕ) → ended_lines (g.gone ++ more) ≡ given ++ ended_lines more) ⊎ (ahead ≡ [])
    → (given ≡ ended_lines (g.gone ++ (dropped ++ waiting))) ⊎ ((rest ≡ []) × (given ≡ lines_of (g.gone ++ (dropped ++ waiting))))
ended_at list given ahead dropped waiting rest g lines is none (inl ended) =
    inl (sym (ended (dropped ++ waiting) ∙ ap (λ (x : List (List ℕ)). given ++ x) (ended_lines-none (dropped ++ waiting) none) ∙ append-nil given))
ended_at list given ahead dropped waiting rest g lines is none (inr empty) =
    let all : dropped ++ (waiting ++ rest) ≡ [] = sym is ∙ empty in
    let size = ap length all in
    let no_rest : rest ≡ [] = nil_from_length rest (omega (arith, size, length-append dropped (waiting ++ rest), length-append waiting rest)) in
    let no_more : dropped ++ waiting ≡ [] = nil_from_length (dropped ++ waiting) (omega (arith, size, length-append dropped (waiting ++ rest), length-append waiting rest, length-append dropped waiting)) in
    let whole : g.gone ++ (dropped ++ waiting) ≡ list = ap (λ (x : List ℕ). g.gone ++ x) (no_more ∙ sym empty) ∙ sym g.stream in
    inr (no_rest, sym (ap lines_of whole ∙ lines ∙ ap (λ (x : List ℕ). given ++ lines_of x) empty ∙ append-nil given))

-- at the limit of the input
pub within_gone : (list ahead : List ℕ) (given : List (List ℕ)) (n : ℕ) → (g : Gone list given ahead) → length g.gone + n ≡ INPUT_LIMIT → GoesPast n ahead
    → ((more : List ℕ) → ended_lines (g.gone ++ more) ≡ given ++ ended_lines more) ⊎ (ahead ≡ []) → given ≡ ended_lines (take INPUT_LIMIT list)
within_gone list ahead given n g width past (inl ended) =
    sym (ap (λ (k : ℕ). ended_lines (take k list)) (sym width) ∙ ap (λ (x : List ℕ). ended_lines (take (length g.gone + n) x)) g.stream
    ∙ ap ended_lines (take-append-add g.gone ahead n) ∙ ended (take n ahead)
    ∙ ap (λ (x : List (List ℕ)). given ++ x) (ended_lines-none (take n ahead) past.no_end) ∙ append-nil given)
within_gone list ahead given n g width past (inr empty) = absurd (omega (arith, past.more, ap length empty))
