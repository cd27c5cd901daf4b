-- What a chain of options gave, step by step.
use Rattle.std.proofs.Common.{◌≡◌, ◌⊎◌, Bool, true, false, cond, Option, Some, None, option_map, option_and_then, inl, inr, refl, arith}

pub bind_some : {A B : Type 0} (o : Option A) (f : A → Option B) (y : B) → option_and_then f o ≡ Some y → (x : A) × (o ≡ Some x) × (f x ≡ Some y)
bind_some None f y h = absurd (grind arith)
bind_some (Some x) f y h = (x, refl, h)

pub map_some : {A B : Type 0} (o : Option A) (f : A → B) (y : B) → option_map f o ≡ Some y → (x : A) × (o ≡ Some x) × (f x ≡ y)
map_some None f y h = absurd (grind arith)
map_some (Some x) f y h = (x, refl, grind arith)

-- which way a test went, where one way gives nothing
pub kept : {A : Type 0} (b : Bool) (o : Option A) (y : A) → cond b o None ≡ Some y → (b ≡ true) × (o ≡ Some y)
kept true o y h = (refl, h)
kept false o y h = absurd (grind arith)

pub passed : {A : Type 0} (b : Bool) (o : Option A) (y : A) → cond b None o ≡ Some y → (b ≡ false) × (o ≡ Some y)
passed true o y h = absurd (grind arith)
passed false o y h = (refl, h)

-- which way it went, where both may give something
pub chosen : {A : Type 0} (b : Bool) (o p : Option A) (y : A) → cond b o p ≡ Some y → ((b ≡ true) × (o ≡ Some y)) ⊎ ((b ≡ false) × (p ≡ Some y))
chosen true o p y h = inl (refl, h)
chosen false o p y h = inr (refl, h)
