-- What follows from several facts that hold on the same outcome.
use Rattle.std.proofs.Common.{Result, Ok, Err, OnOk, OnErr}
use Rattle.std.specs.Prelude.{IfOk}

pub on_ok_both : {T E A B C : Type 0} (r : Result T E) → OnOk r A → OnOk r B → (A → B → C) → OnOk r C
on_ok_both (Ok x) a b f = f a b
on_ok_both (Err e) a b f = tt

pub on_err_both : {T E A B C : Type 0} (r : Result T E) → OnErr r A → OnErr r B → (A → B → C) → OnErr r C
on_err_both (Ok x) a b f = tt
on_err_both (Err e) a b f = f a b

pub on_ok_three : {T E A B C D : Type 0} (r : Result T E) → OnOk r A → OnOk r B → OnOk r C → (A → B → C → D) → OnOk r D
on_ok_three (Ok x) a b c f = f a b c
on_ok_three (Err e) a b c f = tt

pub on_err_three : {T E A B C D : Type 0} (r : Result T E) → OnErr r A → OnErr r B → OnErr r C → (A → B → C → D) → OnErr r D
on_err_three (Ok x) a b c f = tt
on_err_three (Err e) a b c f = f a b c

pub on_ok_of : {T E A : Type 0} (r : Result T E) → A → OnOk r A
on_ok_of (Ok x) a = a
on_ok_of (Err e) a = tt

-- what holds of the answer in each world holds in all of them
pub ok_of_all : {T E W : Type 0} (K : W → Type 0) (P : W → T → Type 0) (r : Result T E) → ((w : W) → K w → IfOk r (P w)) → IfOk r (λ x. (w : W) → K w → P w x)
ok_of_all K P (Ok x) h = λ w k. h w k
ok_of_all K P (Err e) h = tt

pub on_err_of : {T E A : Type 0} (r : Result T E) → A → OnErr r A
on_err_of (Ok x) a = tt
on_err_of (Err e) a = a
