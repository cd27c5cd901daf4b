-- What stands in a text after one push, and after a push that follows others.
use Rattle.std.proofs.Common.{◌≡◌, ℕ, List, ◌++◌, cond, Result, Ok, Err, OnOk, is_ok, ap, ◌∙◌, append_assoc}
use Rattle.std.proofs.lemmas.Result.{on_ok_weaker}

pub pushed : {T E : Type 0} (r : Result T E) (old new text : List ℕ) → new ≡ cond (is_ok r) (old ++ text) old → OnOk r (new ≡ old ++ text)
pushed (Ok x) old new text h = h
pushed (Err e) old new text h = tt

pub pushed_after : {T E : Type 0} (r : Result T E) (old mid new front text : List ℕ) → mid ≡ old ++ front → OnOk r (new ≡ mid ++ text) → OnOk r (new ≡ old ++ (front ++ text))
pushed_after r old mid new front text h = on_ok_weaker r (λ (e : new ≡ mid ++ text). e ∙ ap (λ m. m ++ text) h ∙ append_assoc old front text)
