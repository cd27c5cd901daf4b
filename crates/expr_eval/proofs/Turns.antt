-- Steps of an evaluation over a reader.
use Rattle.std.proofs.Common.{◌≡◌, Result, Ok, Err, sym, ap, ◌∙◌, subst}
use Rattle.std.specs.Prelude.{IsErrAnd}
use Rattle.graph_record.specs.Graph.{Graph}
use Rattle.graph_reader.specs.Reading.{Continues}
use Rattle.expr_eval.specs.declared.refused.EvalRefused.{EvalRefused}
use Rattle.expr_eval.specs.declared.refused.EvalRefused.TheVariants.{TypeFault, Overflow, ZeroDivisor, TooLarge, RowLimit, Gone, NoMemory}
use Rattle.expr_eval.specs.Outcome.{Outcome, and_then, Answers, Evaluates}

answers_same : {A : Type 0} (o p : Outcome A) (r : Result A EvalRefused) → o ≡ p → Answers p r → Answers o r
answers_same o p r e a = subst (λ q. Answers q r) (sym e) a

-- a refusal of a first part is that of the whole
answers_stop : {A B : Type 0} (o : Outcome A) (n : A → Outcome B) (e : EvalRefused) → Answers o (Err e) → Answers (and_then o n) (Err e)
answers_stop o n TypeFault h = ap (λ o. and_then o n) h
answers_stop o n Overflow h = ap (λ o. and_then o n) h
answers_stop o n ZeroDivisor h = ap (λ o. and_then o n) h
answers_stop o n TooLarge h = ap (λ o. and_then o n) h
answers_stop o n RowLimit h = ap (λ o. and_then o n) h
answers_stop o n (Gone x) h = ap (λ o. and_then o n) h
answers_stop o n NoMemory h = tt

module _ {S : Type 0} (stands : S → Graph → Type 0) (follows : S → S → Type 0) (itself : (r : S) → follows r r) (onward : (a b c : S) → follows a b → follows b c → follows a c) where
  -- a part was computed
  pub goes : {A B : Type 0} (whole : Graph → Outcome B) (m : Graph → Outcome A) (n : A → Graph → Outcome B) (old mid new : S) (a : A)
      → Continues stands follows whole (λ g. and_then (m g) (λ x. n x g)) old mid → Evaluates stands follows m mid new (Ok a) → Continues stands follows whole (n a) old new
  goes whole m n old mid new a c r = record {
    same = λ g s. c.same g s ∙ ap (λ o. and_then o (λ x. n x g)) (r.answers g (c.stays g s));
    stays = λ g s. r.stays g (c.stays g s);
    reads = onward old mid new c.reads r.reads;
  }

  -- a first part of a node was computed
  pub opens : {A B : Type 0} (whole : Graph → Outcome B) (m : Graph → Outcome A) (n : A → Graph → Outcome B) (old new : S) (a : A)
      → ((g : Graph) → whole g ≡ and_then (m g) (λ x. n x g)) → Evaluates stands follows m old new (Ok a) → Continues stands follows whole (n a) old new
  opens whole m n old new a is r = goes whole m n old old new a (record { same = λ g s. is g; stays = λ g s. s; reads = itself old }) r

  -- a part was refused
  pub stops : {A B : Type 0} (whole : Graph → Outcome B) (m : Graph → Outcome A) (n : A → Graph → Outcome B) (old mid new : S) (e : EvalRefused)
      → Continues stands follows whole (λ g. and_then (m g) (λ x. n x g)) old mid → Evaluates stands follows m mid new (Err e) → Evaluates stands follows whole old new (Err e)
  stops whole m n old mid new e c r = record {
    answers = λ g s. answers_same (whole g) (and_then (m g) (λ x. n x g)) (Err e) (c.same g s) (answers_stop (m g) (λ x. n x g) e (r.answers g (c.stays g s)));
    stays = λ g s. r.stays g (c.stays g s);
    reads = onward old mid new c.reads r.reads;
  }

  -- what is left was computed
  pub finishes : {A : Type 0} (whole left : Graph → Outcome A) (old mid new : S) (r : Result A EvalRefused)
      → Continues stands follows whole left old mid → Evaluates stands follows left mid new r → Evaluates stands follows whole old new r
  finishes whole left old mid new r c d = record {
    answers = λ g s. answers_same (whole g) (left g) r (c.same g s) (d.answers g (c.stays g s));
    stays = λ g s. d.stays g (c.stays g s);
    reads = onward old mid new c.reads d.reads;
  }

  -- a refusal is passed on
  pub passes : {A : Type 0} (whole : Graph → Outcome A) (old new : S) (r : Result A EvalRefused) (e : EvalRefused)
      → IsErrAnd r (λ x. x ≡ e) → Evaluates stands follows whole old new (Err e) → Evaluates stands follows whole old new r
  passes whole old new (Ok a) e h d = absurd h
  passes whole old new (Err x) e h d = subst (λ y. Evaluates stands follows whole old new (Err y)) (sym h) d

  -- what is left is the same as something else
  pub turns : {A : Type 0} (whole left other : Graph → Outcome A) (old now : S) → Continues stands follows whole left old now → ((g : Graph) → left g ≡ other g) → Continues stands follows whole other old now
  turns whole left other old now c is = record { same = λ g s. c.same g s ∙ is g; stays = c.stays; reads = c.reads }

  -- nothing is left
  pub ends : {A : Type 0} (whole : Graph → Outcome A) (old now : S) (a : A) → Continues stands follows whole (λ g. Ok a) old now → Evaluates stands follows whole old now (Ok a)
  ends whole old now a c = record { answers = c.same; stays = c.stays; reads = c.reads }
