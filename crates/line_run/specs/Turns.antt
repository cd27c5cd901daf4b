-- What answers lines, line after line.
use Rattle.std.specs.Prelude.{◌≡◌, ℕ, List, [], ◌∷◌, ◌++◌, Bool, true, false, Result, Ok, Err, length, nat_lt}
use Rattle.wire_line.specs.declared.line.TheConstants.{LINE_LIMIT}
use Rattle.wire_line.specs.Lines.{without_return}

-- what is said where a line was answered; nothing where memory was wanting
abbrev pub TellsAnswer : {E : Type 0} → Result Bool E → (Bool → Type 0) → Type 0
TellsAnswer (Ok quits) says = says quits
TellsAnswer (Err why) says = Unit {0}

module _ {A : Type 0} (answers : A → List ℕ → List ℕ → Bool → A → Type 0) (answers_long : A → List ℕ → A → Type 0) where
  -- by whether the line is too long; a line that is too long never ends the run
  abbrev pub ByLength : Bool → A → List ℕ → List ℕ → Bool → A → Type 0
  ByLength true before line text quits after = (quits ≡ false) × answers_long before text after
  ByLength false before line text quits after = answers before (without_return line) text quits after

  -- One line was answered with this text. A line's carriage return counts for its length, and is then dropped.
  abbrev pub Turn : A → List ℕ → List ℕ → Bool → A → Type 0
  Turn before line text quits after = ByLength (nat_lt LINE_LIMIT (length line)) before line text quits after

  -- The lines were answered one after the other, all by this text together, and none of them has ended the run.
  abbrev pub AreAnswered : A → List (List ℕ) → List ℕ → A → Type 0
  AreAnswered before [] text after = (text ≡ []) × (after ≡ before)
  AreAnswered before (line ∷ lines) text after =
      (next : A) × (first : List ℕ) × (rest : List ℕ)
      × Turn before line first false next × AreAnswered next lines rest after × (text ≡ first ++ rest)

  -- They were answered one after the other, and the last of them has ended the run.
  pub record QuitsAt (before : A) (lines : List (List ℕ)) (text : List ℕ) (after : A) : Type 0 where
    pub front : List (List ℕ)
    pub last : List ℕ
    pub all : lines ≡ front ++ last ∷ []
    pub next : A
    pub told : List ℕ
    pub answered : AreAnswered before front told next
    pub reply : List ℕ
    pub quits : Turn next last reply true after
    pub parts : text ≡ told ++ reply
