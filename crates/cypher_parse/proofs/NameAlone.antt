-- A name alone is an expression, and an item of WITH.
use Rattle.std.proofs.Common.{◌≡◌, ◌⊎◌, inl, inr, ℕ, suc, ◌+◌, Bool, true, false, ◌&&◌, ◌||◌, ◌==◌, List, [], ◌∷◌, ◌++◌, length, Option, Some, None, refl, sym, ap, ◌∙◌, subst, arith}
use Rattle.std.proofs.lemmas.Bool.{false≢true}
use Rattle.std.proofs.lemmas.Bool.Decides.{Decides-eqb}
use Rattle.std.proofs.lemmas.List.{append-nil, length-append}
use Rattle.cypher_syntax.specs.declared.tree.expr.Expr.{Expr}
use Rattle.cypher_syntax.specs.declared.tree.expr.Expr.TheVariants as tree
use Rattle.cypher_syntax.specs.declared.tree.projection.Item.{Item}
use Rattle.cypher_parse.specs.declared.kind.Kind.{Kind}
use Rattle.cypher_parse.specs.declared.kind.Kind.TheVariants as k
use Rattle.cypher_parse.specs.declared.kinds.TheConstants.{PLAIN_NAMES, SINGLE_FUNCTIONS, AGGREGATES, NAMES}
use Rattle.cypher_parse.specs.declared.lexeme.Lexeme.{Lexeme}
use Rattle.cypher_parse.specs.Kinds.{number, member}
use Rattle.cypher_parse.specs.Words.{name_of, with_name}
use Rattle.cypher_parse.specs.Languages.{Tokens, Lang, is_of, Map, Alt, Bind, After, Empty}
use Rattle.cypher_parse.specs.Parsers.{Outcome, Done, Fault, Parser, and_then}
use Rattle.cypher_parse.specs.Expressions.{Inside, Name, Called, Call, Atom, Post, Unary, Product, Sum, Predicate, Comparison, Not, And, Xor, Or}
use Rattle.cypher_parse.specs.Projections.{item_of, WithItem}
use Rattle.cypher_parse.specs.ProjectionParsers.{carries, leads, is_name_alone, marked, named_item, rest_of_item, with_item, alias}
use Rattle.cypher_parse.proofs.Sets.{which, Stops}
use Rattle.cypher_parse.proofs.Exact.{Shape, Exact, one_shape, IfDone, DoneOf, FaultOf, then_done, then_fault, done_fault}
use Rattle.cypher_parse.proofs.Deeper.{is_read, then_deeper, Opens}
use Rattle.cypher_parse.proofs.Tied.{Tied, Same, tied_same, tied_map, tied_alt, tied_empty, tied_after, tied_within, after_shape}
use Rattle.cypher_parse.proofs.Dependent.{tied_bind}
use Rattle.cypher_parse.proofs.Expressions.{or_shape, tied_name}
use Rattle.cypher_parse.proofs.ExactProjections.{item_shape}

-- ---- a name is an expression

split : (xs ys : List Kind) (n : ℕ) → member n (xs ++ ys) ≡ true → (member n xs ≡ true) ⊎ (member n ys ≡ true)
split [] ys n h = inr h
split (x ∷ xs) ys n h = elim (which (n == number x)) [
  | inl e ↦ inl (ap (λ b. b || member n xs) e)
  | inr e ↦ elim (split xs ys n (sym (ap (λ b. b || member n (xs ++ ys)) e) ∙ h)) [
    | inl m ↦ inl (ap (λ b. b || member n xs) e ∙ m)
    | inr m ↦ inr m
  ]
]

module _ (l : Inside) (t : Lexeme) (n : List ℕ) (has : name_of t ≡ Some n) where
  uncalled : {A : Type 0} (kinds : List Kind) (node : Kind → A → Expr) (X : Lang A) → is_of kinds t ≡ true → Called l kinds node X (t ∷ []) (tree.Var n)
  uncalled kinds node X is = (((t.kind, n), None), (t ∷ [], [], refl, (t, refl, is, ap (with_name t.kind) has), inr (refl, refl)), refl)

  call_alone : is_of (SINGLE_FUNCTIONS ++ (k.RangeWord ∷ []) ++ (k.CoalesceWord ∷ []) ++ (k.CountWord ∷ []) ++ AGGREGATES) t ≡ true → Call l (t ∷ []) (tree.Var n)
  unfolding Call
  call_alone h =
      elim (split (SINGLE_FUNCTIONS ++ (k.RangeWord ∷ []) ++ (k.CoalesceWord ∷ []) ++ (k.CountWord ∷ [])) AGGREGATES (number t.kind) h) [
        | inr is ↦ inr (inr (inr (inr (uncalled AGGREGATES _ _ is))))
        | inl h ↦ elim (split (SINGLE_FUNCTIONS ++ (k.RangeWord ∷ []) ++ (k.CoalesceWord ∷ [])) (k.CountWord ∷ []) (number t.kind) h) [
          | inr is ↦ inr (inr (inr (inl (uncalled (k.CountWord ∷ []) _ _ is))))
          | inl h ↦ elim (split (SINGLE_FUNCTIONS ++ (k.RangeWord ∷ [])) (k.CoalesceWord ∷ []) (number t.kind) h) [
            | inr is ↦ inr (inr (inl (uncalled (k.CoalesceWord ∷ []) _ _ is)))
            | inl h ↦ elim (split SINGLE_FUNCTIONS (k.RangeWord ∷ []) (number t.kind) h) [
              | inr is ↦ inr (inl (uncalled (k.RangeWord ∷ []) _ _ is))
              | inl is ↦ inl (uncalled SINGLE_FUNCTIONS _ _ is)
            ]
          ]
        ]
      ]

  atom_alone : is_of NAMES t ≡ true → Atom l (t ∷ []) (tree.Var n)
  unfolding Atom
  atom_alone h =
      elim (split PLAIN_NAMES (SINGLE_FUNCTIONS ++ (k.RangeWord ∷ []) ++ (k.CoalesceWord ∷ []) ++ (k.CountWord ∷ []) ++ AGGREGATES) (number t.kind) h) [
        | inl is ↦ inr (inr (inr (inl (n, (t, refl, is, has), refl))))
        | inr is ↦ inr (inr (inr (inr (inr (call_alone is)))))
      ]

  post_alone : is_of NAMES t ≡ true → Post l (t ∷ []) (tree.Var n)
  unfolding Post
  post_alone h = ((tree.Var n, ([], [])), (t ∷ [], [], refl, atom_alone h, ([], [], refl, inr (refl, refl), refl)), refl)

  comparison_alone : is_of NAMES t ≡ true → Comparison l (t ∷ []) (tree.Var n)
  unfolding Unary Product Sum Predicate Comparison
  comparison_alone h =
      let unary : Unary l (t ∷ []) (tree.Var n) = inr (inr (post_alone h)) in
      let product : Product l (t ∷ []) (tree.Var n) = ((tree.Var n, []), (t ∷ [], [], refl, unary, refl), refl) in
      let sum : Sum l (t ∷ []) (tree.Var n) = ((tree.Var n, []), (t ∷ [], [], refl, product, refl), refl) in
      let predicate : Predicate l (t ∷ []) (tree.Var n) = ((tree.Var n, []), (t ∷ [], [], refl, sum, refl), refl) in
      ((tree.Var n, []), (t ∷ [], [], refl, predicate, refl), refl)

  pub name_alone : is_of NAMES t ≡ true → Or l (t ∷ []) (tree.Var n)
  unfolding Not And Xor Or
  name_alone h =
      let denied : Not l (t ∷ []) (tree.Var n) = inr (comparison_alone h) in
      let and : And l (t ∷ []) (tree.Var n) = ((tree.Var n, []), (t ∷ [], [], refl, denied, refl), refl) in
      let xor : Xor l (t ∷ []) (tree.Var n) = ((tree.Var n, []), (t ∷ [], [], refl, and, refl), refl) in
      ((tree.Var n, []), (t ∷ [], [], refl, xor, refl), refl)

-- ---- an expression with the mark of a name alone

abbrev Marked : Lang Expr → Lang (Expr × Bool)
Marked E ts p = E ts p.0 × (is_name_alone ts [] ≡ p.1)

unequal : (n : ℕ) → (n == suc n) ≡ false
unequal n = elim (which (n == suc n)) [
  | inl e ↦ (let same : n ≡ suc n = (Decides-eqb n (suc n)).0 e in absurd (omega (arith, same)))
  | inr e ↦ e
]

same_length : (f w r : ℕ) → w ≡ f + r → (suc w == suc r) ≡ (suc f == 1)
same_length f w r h = elim (which (suc w == suc r)) [
  | inl e ↦ (let same : suc w ≡ suc r = (Decides-eqb (suc w) (suc r)).0 e in e ∙ sym ((Decides-eqb (suc f) 1).1 (omega (arith, same, h))))
  | inr e ↦ elim (which (suc f == 1)) [
    | inl g ↦ (let same : suc f ≡ 1 = (Decides-eqb (suc f) 1).0 g in absurd (false≢true (sym e ∙ (Decides-eqb (suc w) (suc r)).1 (omega (arith, same, h)))))
    | inr g ↦ e ∙ sym g
  ]
]

-- what was read tells, whatever follows
alone_of : (front rest : Tokens) → is_name_alone (front ++ rest) rest ≡ is_name_alone front []
alone_of [] rest = ap (λ b. b && leads rest) (unequal (length rest))
alone_of (t ∷ front) rest = ap (λ b. b && leads (t ∷ [])) (same_length (length front) (length (front ++ rest)) (length rest) (length-append front rest))

module _ (L : Lang Expr) (p : Parser Expr) (s : Shape) (E : Exact L p s) where
  mark : Tokens → Expr → Tokens → Outcome (Expr × Bool)
  mark ts x rest = Done (x, is_name_alone ts rest) rest

  marked_done : (ts : Tokens) (a : Expr × Bool) (rest : Tokens) → marked p ts ≡ Done a rest → DoneOf (Marked L) (marked p) ts a rest
  marked_done ts a rest h =
      let x = then_done (p ts) (λ x rest. Done (x, is_name_alone ts rest) rest) a rest h in
      let f = E.done ts x.0 x.1 x.2 in
      let tells : is_name_alone f.0 [] ≡ is_name_alone ts x.1 = sym (alone_of f.0 x.1) ∙ ap (λ ts. is_name_alone ts x.1) (sym f.1) in
      subst (IfDone (DoneOf (Marked L) (marked p) ts)) x.3 (
        f.0,
        f.1,
        (f.2, tells),
        λ other same. ap (λ o. and_then o (λ x rest. Done (x, is_name_alone (f.0 ++ other) rest) rest)) (f.3 other same) ∙ ap (λ b. Done (x.0, b) other) (alone_of f.0 other ∙ tells),
      )

  marked_all : (front : Tokens) (a : Expr × Bool) (rest : Tokens) → Marked L front a → Stops s.more rest → marked p (front ++ rest) ≡ Done a rest
  marked_all front a rest l h =
      ap (λ o. and_then o (λ x rest'. Done (x, is_name_alone (front ++ rest) rest') rest')) (E.all front a.0 rest l.0 h) ∙ ap (λ b. Done (a.0, b) rest) (alone_of front rest ∙ l.1)

  marked_fault : (ts : Tokens) (k : Bool) (rest : Tokens) → marked p ts ≡ Fault k rest → FaultOf (Marked L) (marked p) ts k rest
  marked_fault ts k rest h = elim (then_fault (p ts) (λ x rest. Done (x, is_name_alone ts rest) rest) k rest h) [
    | inl e ↦ (let x = E.fault ts k rest e in
        (x.0, x.1, (x.2.0, (x.2.1, is_name_alone (x.0 ++ x.2.0) []), (x.2.2, refl)), λ other same. ap (λ o. and_then o (λ y rest. Done (y, is_name_alone (x.0 ++ other) rest) rest)) (x.3 other same)))
    | inr x ↦ absurd (done_fault (x.0, is_name_alone ts x.1) k x.1 rest x.3)
  ]

  exact_marked : Exact (Marked L) (marked p) s
  exact_marked = record { done = marked_done; all = marked_all; fault = marked_fault; some = (E.some.0, (E.some.1, is_name_alone E.some.0 []), (E.some.2, refl)); starts = λ ts a l. E.starts ts a.0 l.0 }

marked_opens : (L : Lang Expr) (p : Parser Expr) → Opens L p → Opens (Marked L) (marked p)
marked_opens L p O ts rest h = elim (then_fault (p ts) (λ x rest. Done (x, is_name_alone ts rest) rest) true rest h) [
  | inl e ↦ (let o = O ts rest e in (o.0, o.1, o.2, o.3, o.4, (o.5.0, (o.5.1, is_name_alone (o.0 ++ o.1 ∷ [] ++ o.5.0) []), (o.5.2, refl))))
  | inr x ↦ absurd (done_fault (x.0, is_name_alone ts x.1) true x.1 rest x.3)
]

tied_marked : {L M : Lang Expr} {p q : Parser Expr} {s : Shape} → Tied true L M p q s → Tied true (Marked L) (Marked M) (marked p) (marked q) s
tied_marked {L = L} {M = M} {p = p} {q = q} {s = s} T = record {
  high = exact_marked M q s T.high;
  low = λ h. exact_marked L p s (T.low h);
  deeper = λ h ts. then_deeper (p ts) (q ts) (λ x rest. Done (x, is_name_alone ts rest) rest) (λ x rest. Done (x, is_name_alone ts rest) rest) (T.deeper h ts) (λ x rest. refl);
  opens = λ h. marked_opens M p (T.opens h);
}

-- ---- an item of WITH

abbrev NamedItem : Expr → Lang Item
NamedItem x = Map (λ n. item_of (x, Some n)) (After (k.As ∷ []) Name)

abbrev RestOfItem : Expr × Bool → Lang Item
RestOfItem (x, true) = Alt (NamedItem x) (Empty (item_of (x, None)))
RestOfItem (x, false) = NamedItem x

abbrev rest_shape : Shape
rest_shape = record { first = k.As ∷ []; empty = true; more = k.As ∷ [] }

tied_named : (x : Expr) → Tied true (NamedItem x) (NamedItem x) (named_item x) (named_item x) (after_shape (k.As ∷ []) (one_shape NAMES))
unfolding alias
tied_named x = tied_map (λ n. item_of (x, Some n)) (tied_after k.As [] tied_name)

tied_rest : (p : Expr × Bool) → Tied true (RestOfItem p) (RestOfItem p) (rest_of_item p) (rest_of_item p) rest_shape
tied_rest (x, true) = tied_within rest_shape (tied_alt (k.As ∷ []) (tied_named x) (tied_empty (item_of (x, None))) refl refl refl) refl refl refl
tied_rest (x, false) = tied_within rest_shape (tied_named x) refl refl refl

module _ (L : Lang Expr) (p : Parser Expr) (s : Shape) (E : Exact L p s) (reads : (t : Lexeme) (n : List ℕ) → name_of t ≡ Some n → is_of NAMES t ≡ true → L (t ∷ []) (tree.Var n)) where
  abbrev Picked : Lang Item
  Picked = Bind (Marked L) RestOfItem

  value_or : Expr → Outcome Expr → Expr
  value_or x (Done a rest) = a
  value_or x (Fault k rest) = x

  only : (ts : Tokens) (x y : Expr) → L ts x → L ts y → x ≡ y
  unfolding value_or
  only ts x y l m = ap (value_or x) (sym (is_read L p s E ts x l) ∙ is_read L p s E ts y m)

  both_of : (a b : Bool) → (a && b) ≡ true → (a ≡ true) × (b ≡ true)
  both_of true b h = (refl, h)
  both_of false b h = absurd (false≢true h)

  carried : (o : Option (List ℕ)) → carries o ≡ true → (n : List ℕ) × (o ≡ Some n)
  carried None h = absurd (false≢true h)
  carried (Some n) h = (n, refl)

  -- a name alone is one token
  one_token : (ts : Tokens) → is_name_alone ts [] ≡ true → (t : Lexeme) × (n : List ℕ) × (ts ≡ t ∷ []) × (is_of NAMES t ≡ true) × (name_of t ≡ Some n)
  one_token [] h = absurd (false≢true h)
  one_token (t ∷ []) h = let b = both_of (is_of NAMES t) (carries (name_of t)) h in let n = carried (name_of t) b.1 in (t, n.0, refl, b.0, n.1)
  one_token (t ∷ u ∷ ts) h =
      let b = both_of (length (t ∷ u ∷ ts) == 1) (leads (t ∷ u ∷ ts)) h in
      let same : length (t ∷ u ∷ ts) ≡ 1 = (Decides-eqb (length (t ∷ u ∷ ts)) 1).0 b.0 in
      absurd (omega (arith, same))

  named_to : (ts : Tokens) (a : Item) (x : Expr) (f g : Tokens) → ts ≡ f ++ g → L f x → NamedItem x g a → WithItem L ts a
  unfolding WithItem
  named_to ts a x f g e l m = inl ((x, m.0), (f, g, e, l, m.1), m.2)

  alone_to : (ts : Tokens) (a : Item) (x : Expr) (f g : Tokens) → ts ≡ f ++ g → L f x → is_name_alone f [] ≡ true → Empty (item_of (x, None)) g a → WithItem L ts a
  unfolding WithItem
  alone_to ts a x f g e l m n =
      let t = one_token f m in
      let here : ts ≡ t.0 ∷ [] = e ∙ ap (λ g. f ++ g) n.0 ∙ append-nil f ∙ t.2 in
      let same : tree.Var t.1 ≡ x = only f (tree.Var t.1) x (subst (λ ts. L ts (tree.Var t.1)) (sym t.2) (reads t.0 t.1 t.4 t.3)) l in
      inr (t.1, (t.0, here, t.3, t.4), ap (λ x. item_of (x, None)) same ∙ n.1)

  to : (ts : Tokens) (a : Item) (x : Expr) (b : Bool) (f g : Tokens) → ts ≡ f ++ g → L f x → is_name_alone f [] ≡ b → RestOfItem (x, b) g a → WithItem L ts a
  to ts a x true f g e l m (inl r) = named_to ts a x f g e l r
  to ts a x true f g e l m (inr n) = alone_to ts a x f g e l m n
  to ts a x false f g e l m r = named_to ts a x f g e l r

  any_rest : (x : Expr) (b : Bool) (g : Tokens) (a : Item) → NamedItem x g a → RestOfItem (x, b) g a
  any_rest x true g a m = inl m
  any_rest x false g a m = m

  is_alone : (t : Lexeme) (n : List ℕ) → is_of NAMES t ≡ true → name_of t ≡ Some n → is_name_alone (t ∷ []) [] ≡ true
  is_alone t n is has = ap (λ b. b && carries (name_of t)) is ∙ ap carries has

  of : (ts : Tokens) (a : Item) → WithItem L ts a → Picked ts a
  unfolding WithItem
  of ts a (inl x) = ((x.0.0, is_name_alone x.1.0 []), x.1.0, x.1.1, x.1.2, (x.1.3, refl), any_rest x.0.0 (is_name_alone x.1.0 []) x.1.1 a (x.0.1, x.1.4, x.2))
  of ts a (inr x) =
      let t = x.1.0 in
      let here = x.1.1 in
      ((tree.Var x.0, true), ts, [], sym (append-nil ts), (subst (λ ts. L ts (tree.Var x.0)) (sym here) (reads t x.0 x.1.3 x.1.2), ap (λ ts. is_name_alone ts []) here ∙ is_alone t x.0 x.1.2 x.1.3), inr (refl, x.2))

  same_items : Same Picked (WithItem L)
  same_items = record { to = λ ts a l. to ts a l.0.0 l.0.1 l.1 l.2 l.3 l.4.0 l.4.1 l.5; of = of }

pub tied_with_item : (L M : Lang Expr) (p q : Parser Expr) → Tied true L M p q or_shape → ((t : Lexeme) (n : List ℕ) → name_of t ≡ Some n → is_of NAMES t ≡ true → L (t ∷ []) (tree.Var n)) → ((t : Lexeme) (n : List ℕ) → name_of t ≡ Some n → is_of NAMES t ≡ true → M (t ∷ []) (tree.Var n))
    → Tied true (WithItem L) (WithItem M) (with_item p) (with_item q) item_shape
unfolding with_item
tied_with_item L M p q T reads reads' =
    tied_same (same_items L p or_shape (T.low refl) reads) (same_items M q or_shape T.high reads')
    (tied_within item_shape (tied_bind (tied_marked T) tied_rest refl) refl refl refl)
