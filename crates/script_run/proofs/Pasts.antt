-- What answers the lines of a script, for each past that its desk stands for.
use Rattle.std.proofs.Common.{ℕ, List, [], ◌∷◌, Bool, true, false, nat_lt, length, refl, sym, subst}
use Rattle.line_run.specs.Turns.{AreAnswered, ByLength, QuitsAt, Turn}
use Rattle.script_desk.specs.Script.{AnswersLine, AnswersLong, Past}
use Rattle.script_desk.specs.Stands.{DeskParts, IsLine, Stands}
use Rattle.wire_line.specs.declared.line.TheConstants.{LINE_LIMIT}

module _ {A : Type 0} (desk : A → DeskParts) where
  abbrev pub answers : A → List ℕ → List ℕ → Bool → A → Type 0
  answers old line text quits new =
      (past : Past) → Stands (desk old) past → IsLine (λ t q after. AnswersLine past line t q after) (Stands (desk new)) text quits

  abbrev pub answers_long : A → List ℕ → A → Type 0
  answers_long old text new =
      (past : Past) → Stands (desk old) past → IsLine (λ t q after. AnswersLong past t after) (Stands (desk new)) text false

  -- one line
  by_length : (b : Bool) (before after : A) (line text : List ℕ) (quits : Bool) (past : Past) → ByLength answers answers_long b before line text quits after
      → Stands (desk before) past → IsLine (λ t q p. ByLength AnswersLine AnswersLong b past line t q p) (Stands (desk after)) text quits
  by_length true before after line text quits past turn stood =
      let long = turn.1 past stood in
      record { after = long.after; says_so = (turn.0, long.says_so); stood = long.stood }
  by_length false before after line text quits past turn stood = turn past stood

  turn_of : (before after : A) (line text : List ℕ) (quits : Bool) (past : Past) → Turn answers answers_long before line text quits after
      → Stands (desk before) past → IsLine (λ t q p. Turn AnswersLine AnswersLong past line t q p) (Stands (desk after)) text quits
  turn_of before after line text quits past turn stood = by_length (nat_lt LINE_LIMIT (length line)) before after line text quits past turn stood

  -- lines one after the other
  pub record LinesOf (past : Past) (lines : List (List ℕ)) (text : List ℕ) (after : A) : Type 0 where
    pub past' : Past
    pub answered : AreAnswered AnswersLine AnswersLong past lines text past'
    pub stood : Stands (desk after) past'

  pub lines_of_past : (before after : A) (lines : List (List ℕ)) (text : List ℕ) (past : Past) → AreAnswered answers answers_long before lines text after
      → Stands (desk before) past → LinesOf past lines text after
  lines_of_past before after [] text past are stood =
      record { past' = past; answered = (are.0, refl); stood = subst (λ x. Stands (desk x) past) (sym are.1) stood }
  lines_of_past before after (line ∷ lines) text past are stood =
      let (next, first, rest, one, more, all) = are in
      let said = turn_of before next line first false past one stood in
      let then = lines_of_past next after lines rest said.after more said.stood in
      record { past' = then.past'; answered = (said.after, first, rest, said.says_so, then.answered, all); stood = then.stood }

  -- up to one that ended the script
  pub record QuitsOf (past : Past) (lines : List (List ℕ)) (text : List ℕ) (after : A) : Type 0 where
    pub past' : Past
    pub quits : QuitsAt AnswersLine AnswersLong past lines text past'
    pub stood : Stands (desk after) past'

  pub quits_of_past : (before after : A) (lines : List (List ℕ)) (text : List ℕ) (past : Past) → QuitsAt answers answers_long before lines text after
      → Stands (desk before) past → QuitsOf past lines text after
  quits_of_past before after lines text past q stood =
      let front = lines_of_past before q.next q.front q.told past q.answered stood in
      let last = turn_of q.next after q.last q.reply true front.past' q.quits front.stood in
      record {
        past' = last.after;
        quits = record {
          front = q.front;
          last = q.last;
          all = q.all;
          next = front.past';
          told = q.told;
          answered = front.answered;
          reply = q.reply;
          quits = last.says_so;
          parts = q.parts;
        };
        stood = last.stood;
      }
