-- What an answer says of parts that come one behind the other.
use Rattle.std.proofs.Common.{◌≡◌, List, [], ◌∷◌, Result, Ok, Err, refl, sym, ap, subst, map}
use Rattle.std.specs.Prelude.{IsErrAnd}
use Rattle.expr_eval.specs.declared.refused.EvalRefused.{EvalRefused}
use Rattle.expr_eval.specs.declared.refused.EvalRefused.TheVariants.{TypeFault, Overflow, ZeroDivisor, TooLarge, RowLimit, Gone, NoMemory}
use Rattle.expr_eval.specs.Outcome.{Answers, Outcome, and_then}

pub answers_same : {A : Type 0} (o p : Outcome A) (r : Result A EvalRefused) → o ≡ p → Answers p r → Answers o r
answers_same o p r e a = subst (λ q. Answers q r) (sym e) a

-- a refusal of a first part is that of the whole
pub answers_stop : {A B : Type 0} (o : Outcome A) (n : A → Outcome B) (e : EvalRefused) → Answers o (Err e) → Answers (and_then o n) (Err e)
answers_stop o n TypeFault h = ap (λ o. and_then o n) h
answers_stop o n Overflow h = ap (λ o. and_then o n) h
answers_stop o n ZeroDivisor h = ap (λ o. and_then o n) h
answers_stop o n TooLarge h = ap (λ o. and_then o n) h
answers_stop o n RowLimit h = ap (λ o. and_then o n) h
answers_stop o n (Gone x) h = ap (λ o. and_then o n) h
answers_stop o n NoMemory h = tt

-- where there is a value, an error is for want of memory
pub memory_only : {A B : Type 0} (a : A) (o : Outcome B) (e : EvalRefused) → Answers (Ok a) (Err e) → Answers o (Err e)
memory_only a o TypeFault h = absurd cc
memory_only a o Overflow h = absurd cc
memory_only a o ZeroDivisor h = absurd cc
memory_only a o TooLarge h = absurd cc
memory_only a o RowLimit h = absurd cc
memory_only a o (Gone x) h = absurd cc
memory_only a o NoMemory h = tt

pub ok_equal : {A : Type 0} (a b : A) → ◌≡◌ {A = Outcome A} (Ok a) (Ok b) → a ≡ b
ok_equal a b h = cc

-- the first of what a function made
pub record IsMade {X Y : Type 0} (f : X → Y) (left : List X) (y : Y) (ys : List Y) : Type 0 where
  pub head : X
  pub tail : List X
  pub parts : left ≡ head ∷ tail
  pub first : y ≡ f head
  pub rest : ys ≡ map f tail

pub made_first : {X Y : Type 0} (f : X → Y) (left : List X) (y : Y) (ys : List Y) → y ∷ ys ≡ map f left → IsMade f left y ys
made_first f [] y ys h = absurd cc
made_first f (x ∷ xs) y ys h = record { head = x; tail = xs; parts = refl; first = cc; rest = cc }

pub none_made : {X Y : Type 0} (f : X → Y) (left : List X) → [] ≡ map f left → left ≡ []
none_made f [] h = refl
none_made f (x ∷ xs) h = absurd cc

-- the error that is passed on is the one that came
pub err_is : {A : Type 0} (r : Result A EvalRefused) (e : EvalRefused) → IsErrAnd r (λ x. x ≡ e) → r ≡ Err e
err_is (Ok a) e h = absurd h
err_is (Err x) e h = ap (λ y. Err y) h
