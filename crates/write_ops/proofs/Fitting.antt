-- Plans grow by operations that fit.
use Rattle.std.proofs.Common.{◌≡◌, ℕ, Bool, true, false, List, [], ◌∷◌, ◌++◌, length, map, Ok, Err, Some, refl, sym, ap, ◌∙◌, subst, arith, append_assoc, append-nil}
use Rattle.std.specs.Prelude.{slice_get}
use Rattle.std.proofs.lemmas.Option.{slice_get_within, slice_get-get_or, get_or_from_slice_get}
use Rattle.std.proofs.lemmas.List.{length-append}
use Rattle.std.proofs.Math.ListN.{get_or-append}
use Rattle.std.proofs.Math.Seq.{get_or-append_seam}
use Rattle.graph_value.specs.declared.value.Value.{Value}
use Rattle.expr_eval.specs.Outcome.{Outcome, and_then}
use Rattle.write_ops.specs.declared.planned.Entity.{Entity}
use Rattle.write_ops.specs.declared.planned.Entity.TheVariants.{Vertex, Edge}
use Rattle.write_ops.specs.declared.planned.Pick.{Pick}
use Rattle.write_ops.specs.declared.planned.Pick.TheVariants.{Known, Made}
use Rattle.write_ops.specs.declared.planned.PlannedOp.{PlannedOp}
use Rattle.write_ops.specs.Earlier.{made_by, made_in, IsVertex, IsEdge, Fits, AllFit, EntityFits}
use Rattle.write_ops.specs.Over.{over}
use Rattle.write_ops.specs.Setting.{Ops}
use Rattle.write_ops.specs.Writing.{prop_op, label_op}

-- OUTCOMES

abbrev pub fine : {A : Type 0} → A → Outcome A
fine a = Ok a

pub ok_is : {A : Type 0} (a b : A) → fine a ≡ Ok b → a ≡ b
ok_is a b h = cc

pub opened : {A B : Type 0} (o : Outcome A) (f : A → Outcome B) (b : B) → and_then o f ≡ Ok b → (a : A) × (o ≡ Ok a) × (f a ≡ Ok b)
opened (Ok a) f b h = (a, refl, h)
opened (Err e) f b h = absurd (cc)

-- what each step keeps, all keep
pub over_keeps : {S A : Type 0} (f : S → A → Outcome S) (P : S → Type 0) → ((s : S) (x : A) (t : S) → P s → f s x ≡ Ok t → P t)
    → (s : S) (xs : List A) (t : S) → P s → over f s xs ≡ Ok t → P t
over_keeps f P step s [] t p h = subst P (ok_is s t h) p
over_keeps f P step s (x ∷ xs) t p h =
    let o = opened (f s x) (λ u. over f u xs) t h in
    over_keeps f P step o.0 xs t (step s x o.0 p o.1) o.2

-- WHAT IS MADE

pub slice_later : (xs ys : List Bool) (k : ℕ) (b : Bool) → slice_get xs k ≡ Some b → slice_get (xs ++ ys) k ≡ Some b
slice_later xs ys k b h =
    let within = slice_get_within xs k b h in
    slice_get-get_or (xs ++ ys) k b (omega (arith, within, length-append xs ys))
    ∙ ap Some (get_or-append xs ys b k within ∙ get_or_from_slice_get xs k b b h)

pub slice_end : (xs : List Bool) (b : Bool) (n : ℕ) → length xs ≡ n → slice_get (xs ++ b ∷ []) n ≡ Some b
slice_end xs b n e =
    subst (λ n. slice_get (xs ++ b ∷ []) n ≡ Some b) e
    (slice_get-get_or (xs ++ b ∷ []) (length xs) b (omega (arith, length-append xs (b ∷ []))) ∙ ap Some (get_or-append_seam xs b [] b))

pub vertex_later : (made more : List Bool) (at : Pick) → IsVertex made at → IsVertex (made ++ more) at
vertex_later made more (Known id) h = tt
vertex_later made more (Made k) h = slice_later made more k true h

pub edge_later : (made more : List Bool) (at : Pick) → IsEdge made at → IsEdge (made ++ more) at
edge_later made more (Known id) h = tt
edge_later made more (Made k) h = slice_later made more k false h

pub entity_later : (made more : List Bool) (x : Entity) → EntityFits made x → EntityFits (made ++ more) x
entity_later made more (Vertex at) h = vertex_later made more at h
entity_later made more (Edge at) h = edge_later made more at h

-- PLANS

made_append : (xs ys : Ops) → made_in (xs ++ ys) ≡ made_in xs ++ made_in ys
made_append [] ys = refl
made_append (o ∷ os) ys = ap (λ m. made_by o ++ m) (made_append os ys) ∙ sym (append_assoc (made_by o) (made_in os) (made_in ys))

fit_append : (made : List Bool) (xs ys : Ops) → AllFit made xs → AllFit (made ++ made_in xs) ys → AllFit made (xs ++ ys)
fit_append made [] ys a b = subst (λ m. AllFit m ys) (append-nil made) b
fit_append made (o ∷ os) ys a b = (a.0, fit_append (made ++ made_by o) os ys a.1 (subst (λ m. AllFit m ys) (sym (append_assoc made (made_by o) (made_in os))) b))

-- a plan that fits, and makes these
pub record Good (ops : Ops) (made : List Bool) : Type 0 where
  pub fit : AllFit [] ops
  pub makes : made_in ops ≡ made

pub nothing_good : Good [] []
nothing_good = record { fit = tt; makes = refl }

pub push : (ops : Ops) (made : List Bool) (o : PlannedOp) → Good ops made → Fits made o → Good (ops ++ o ∷ []) (made ++ made_by o)
push ops made o g h = record {
  fit = fit_append [] ops (o ∷ []) g.fit (subst (λ m. Fits m o) (sym g.makes) h, tt);
  makes = made_append ops (o ∷ []) ∙ ap (λ m. m ++ made_in (o ∷ [])) g.makes ∙ ap (λ m. made ++ m) (append-nil (made_by o));
}

-- one that makes nothing
pub push_same : (ops : Ops) (made : List Bool) (o : PlannedOp) → made_by o ≡ [] → Good ops made → Fits made o → Good (ops ++ o ∷ []) made
push_same ops made o e g h = subst (λ m. Good (ops ++ o ∷ []) m) (ap (λ m. made ++ m) e ∙ append-nil made) (push ops made o g h)

pub prop_good : (ops : Ops) (made : List Bool) (x : Entity) (key : List ℕ) (v : Value) → EntityFits made x → Good ops made → Good (ops ++ prop_op x key v ∷ []) made
prop_good ops made (Vertex at) key v h g = push_same ops made (prop_op (Vertex at) key v) refl g h
prop_good ops made (Edge at) key v h g = push_same ops made (prop_op (Edge at) key v) refl g h

label_good : (ops : Ops) (made : List Bool) (adds : Bool) (at : Pick) (label : List ℕ) → IsVertex made at → Good ops made → Good (ops ++ label_op adds at label ∷ []) made
label_good ops made true at label h g = push_same ops made (label_op true at label) refl g h
label_good ops made false at label h g = push_same ops made (label_op false at label) refl g h

pub labels_good : (ops : Ops) (made : List Bool) (adds : Bool) (at : Pick) (labels : List (List ℕ)) → IsVertex made at → Good ops made → Good (ops ++ map (label_op adds at) labels) made
labels_good ops made adds at [] h g = subst (λ o. Good o made) (sym (append-nil ops)) g
labels_good ops made adds at (label ∷ labels) h g =
    subst (λ o. Good o made) (append_assoc ops (label_op adds at label ∷ []) (map (label_op adds at) labels))
    (labels_good (ops ++ label_op adds at label ∷ []) made adds at labels h (label_good ops made adds at label h g))
