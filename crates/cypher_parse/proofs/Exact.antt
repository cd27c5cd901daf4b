-- A parser reads all sentences of a language and no others, and faults at the first token that no sentence goes on with.
use Rattle.std.proofs.Common.{◌≡◌, ◌⊎◌, inl, inr, ℕ, zero, suc, ◌≤◌, Bool, true, false, ◌&&◌, cond, List, [], ◌∷◌, ◌++◌, length, Option, Some, None, refl, sym, ap, ◌∙◌, subst, arith}
use Rattle.std.proofs.lemmas.List.{append_assoc, append-nil, length-append}
use Rattle.std.proofs.lemmas.Bool.{false≢true}
use Rattle.std.proofs.lemmas.Option.{same_Some, none-some}
use Rattle.cypher_parse.specs.declared.kind.Kind.{Kind}
use Rattle.cypher_parse.specs.declared.lexeme.Lexeme.{Lexeme}
use Rattle.cypher_parse.specs.Kinds.{disjoint, subset}
use Rattle.cypher_parse.specs.Languages.{Tokens, Lang, is_of, One, Valued, Seq, Map, Empty, Alt, Many}
use Rattle.cypher_parse.specs.Parsers.{Outcome, Done, Fault, Parser, and_then, head, heads, one, carried, valued, seq, map_out, empty, alt, many_in, many}
use Rattle.cypher_parse.specs.Answer.{Begins}
use Rattle.cypher_parse.proofs.Sets.{which, chosen, other_chosen, Stops, heads_apart, heads_among, stops_within, heads_left, heads_right, stops_left, stops_right, heads_alike, alike_front, heads_front}

-- What a language's sentences begin with, whether one of them is empty, and which tokens behind a sentence might go on with it.
pub record Shape : Type 0 where
  pub first : List Kind
  pub empty : Bool
  pub more : List Kind

-- a sentence begins with one of these, or is the empty one
abbrev pub StartsWith : List Kind → Bool → Tokens → Type 0
StartsWith first may ts = (heads first ts ≡ true) ⊎ ((ts ≡ []) × (may ≡ true))

pub record Exact {A : Type 0} (L : Lang A) (p : Parser A) (s : Shape) : Type 0 where
  -- What is read is a sentence, and of what follows only the next token counts.
  pub done : (ts : Tokens) (a : A) (rest : Tokens) → p ts ≡ Done a rest → (front : Tokens) × (ts ≡ front ++ rest) × L front a × ((other : Tokens) → head other ≡ head rest → p (front ++ other) ≡ Done a other)
  -- A sentence is read, where no token follows that might go on with it.
  pub all : (front : Tokens) (a : A) (rest : Tokens) → L front a → Stops s.more rest → p (front ++ rest) ≡ Done a rest
  -- What stands before a fault begins a sentence, and the fault stays whatever follows the next token.
  pub fault : (ts : Tokens) (k : Bool) (rest : Tokens) → p ts ≡ Fault k rest → (front : Tokens) × (ts ≡ front ++ rest) × Begins L front × ((other : Tokens) → head other ≡ head rest → p (front ++ other) ≡ Fault k other)
  pub some : (ts : Tokens) × (a : A) × L ts a
  pub starts : (ts : Tokens) (a : A) → L ts a → StartsWith s.first s.empty ts

-- ---- outcomes

abbrev pub IfDone : {A : Type 0} → (A → Tokens → Type 0) → Outcome A → Type 0
IfDone P (Done a rest) = P a rest
IfDone P (Fault k rest) = Unit {0}

abbrev pub IfFault : {A : Type 0} → (Bool → Tokens → Type 0) → Outcome A → Type 0
IfFault P (Done a rest) = Unit {0}
IfFault P (Fault k rest) = P k rest

abbrev IsDone : {A : Type 0} → Outcome A → Type 0
IsDone (Done a rest) = Unit {0}
IsDone (Fault k rest) = ⊥

pub done_fault : {A : Type 0} (a : A) (k : Bool) (rest rest' : Tokens) → Done a rest ≡ Fault k rest' → ⊥
done_fault a k rest rest' h = subst IsDone h tt

pub fault_done : {A : Type 0} (a : A) (k : Bool) (rest rest' : Tokens) → Fault k rest' ≡ Done a rest → ⊥
fault_done a k rest rest' h = subst IsDone (sym h) tt

pub then_done : {A B : Type 0} (o : Outcome A) (f : A → Parser B) (b : B) (rest : Tokens) → and_then o f ≡ Done b rest → (a : A) × (mid : Tokens) × (o ≡ Done a mid) × (f a mid ≡ Done b rest)
then_done (Done a mid) f b rest h = (a, mid, refl, h)
then_done (Fault k mid) f b rest h = absurd (fault_done b k rest mid h)

abbrev FaultIn : (A : Type 0) → Bool → Tokens → Outcome A
FaultIn A k rest = Fault k rest

-- a fault is passed on
again : {A B : Type 0} (k' : Bool) (mid : Tokens) (k : Bool) (rest : Tokens) → FaultIn B k' mid ≡ FaultIn B k rest → FaultIn A k' mid ≡ FaultIn A k rest
again {A} {B} k' mid k rest h =
    let P : Bool → Tokens → Type 0 = λ k rest. FaultIn A k' mid ≡ FaultIn A k rest in
    let start : P k' mid = refl in
    subst (IfFault {A = B} P) h start

pub then_fault : {A B : Type 0} (o : Outcome A) (f : A → Parser B) (k : Bool) (rest : Tokens) → and_then o f ≡ Fault k rest → (o ≡ Fault k rest) ⊎ ((a : A) × (mid : Tokens) × (o ≡ Done a mid) × (f a mid ≡ Fault k rest))
then_fault (Done a mid) f k rest h = inr (a, mid, refl, h)
then_fault (Fault k' mid) f k rest h = inl (again k' mid k rest h)

-- ---- what was read, and what stays

abbrev pub DoneOf : {A : Type 0} → Lang A → Parser A → Tokens → A → Tokens → Type 0
DoneOf L p ts a rest = (front : Tokens) × (ts ≡ front ++ rest) × L front a × ((other : Tokens) → head other ≡ head rest → p (front ++ other) ≡ Done a other)

abbrev pub FaultOf : {A : Type 0} → Lang A → Parser A → Tokens → Bool → Tokens → Type 0
FaultOf L p ts k rest = (front : Tokens) × (ts ≡ front ++ rest) × Begins L front × ((other : Tokens) → head other ≡ head rest → p (front ++ other) ≡ Fault k other)

-- where one part begins with the front of the other
parts : (ts f mid g rest : Tokens) → ts ≡ f ++ mid → mid ≡ g ++ rest → ts ≡ f ++ g ++ rest
parts ts f mid g rest e h = e ∙ ap (λ mid. f ++ mid) h ∙ sym (append_assoc f g rest)

pub alike_part : (mid g rest other : Tokens) → mid ≡ g ++ rest → head other ≡ head rest → head (g ++ other) ≡ head mid
alike_part mid g rest other h e = alike_front g rest other e ∙ ap head (sym h)

-- ---- a sentence and another

abbrev pub seq_shape : Shape → Shape → Shape
seq_shape s u = record {
  first = s.first ++ cond s.empty u.first [];
  empty = s.empty && u.empty;
  more = u.more ++ cond u.empty s.more [];
}

pub cond_right : (b : Bool) (xs : List Kind) (ts : Tokens) → b ≡ true → Stops (cond b xs []) ts → Stops xs ts
cond_right b xs ts e h = subst (λ ys. Stops ys ts) (chosen b xs [] e) h

pub cond_heads : (b : Bool) (xs : List Kind) (ts : Tokens) → b ≡ true → heads xs ts ≡ true → heads (cond b xs []) ts ≡ true
cond_heads b xs ts e h = subst (λ ys. heads ys ts ≡ true) (sym (chosen b xs [] e)) h

pub starts_seq : {A B : Type 0} (L : Lang A) (M : Lang B) (s u : Shape) → ((ts : Tokens) (a : A) → L ts a → StartsWith s.first s.empty ts) → ((ts : Tokens) (b : B) → M ts b → StartsWith u.first u.empty ts)
    → (ts : Tokens) (p : A × B) → Seq L M ts p → StartsWith (seq_shape s u).first (seq_shape s u).empty ts
starts_seq L M s u S T ts p l = elim (S l.0 p.0 l.3) [
  | inl h ↦ inl (heads_left s.first (cond s.empty u.first []) ts (ap (heads s.first) l.2 ∙ heads_front s.first l.0 l.1 h))
  | inr e ↦ (let here : ts ≡ l.1 = l.2 ∙ ap (λ f. f ++ l.1) e.0 in
      elim (T l.1 p.1 l.4) [
        | inl h ↦ inl (heads_right s.first (cond s.empty u.first []) ts (cond_heads s.empty u.first ts e.1 (ap (heads u.first) here ∙ h)))
        | inr g ↦ inr (here ∙ g.0, ap (λ b. b && u.empty) e.1 ∙ g.1)
      ])
]

module _ {A B : Type 0} (L : Lang A) (M : Lang B) (p : Parser A) (q : Parser B) (s u : Shape) (E : Exact L p s) (F : Exact M q u) (clear : disjoint u.first s.more ≡ true) where
  follows : (back : Tokens) (b : B) (rest : Tokens) → M back b → Stops (seq_shape s u).more rest → Stops s.more (back ++ rest)
  follows back b rest m h = elim (F.starts back b m) [
    | inl f ↦ heads_apart u.first s.more clear (back ++ rest) (heads_front u.first back rest f)
    | inr e ↦ subst (λ ts. Stops s.more (ts ++ rest)) (sym e.0) (cond_right u.empty s.more rest e.1 (stops_right u.more (cond u.empty s.more []) rest h))
  ]

  seq_stays : (a : A) (ts mid : Tokens) → p ts ≡ Done a mid → seq p q ts ≡ and_then (q mid) (λ b rest. Done (a, b) rest)
  seq_stays a ts mid h = ap (λ o. and_then o (λ a rest. and_then (q rest) (λ b rest. Done (a, b) rest))) h

  seq_done : (ts : Tokens) (ab : A × B) (rest : Tokens) → seq p q ts ≡ Done ab rest → DoneOf (Seq L M) (seq p q) ts ab rest
  seq_done ts ab rest h =
      let x = then_done (p ts) (λ a rest. and_then (q rest) (λ b rest. Done (a, b) rest)) ab rest h in
      let y = then_done (q x.1) (λ b rest. Done (x.0, b) rest) ab rest x.3 in
      let f = E.done ts x.0 x.1 x.2 in
      let g = F.done x.1 y.0 y.1 y.2 in
      subst (IfDone (DoneOf (Seq L M) (seq p q) ts)) y.3 (
        f.0 ++ g.0,
        parts ts f.0 x.1 g.0 y.1 f.1 g.1,
        (f.0, g.0, refl, f.2, g.2),
        λ other e. ap (seq p q) (append_assoc f.0 g.0 other) ∙ seq_stays x.0 (f.0 ++ (g.0 ++ other)) (g.0 ++ other) (f.3 (g.0 ++ other) (alike_part x.1 g.0 y.1 other g.1 e)) ∙ ap (λ o. and_then o (λ b rest. Done (x.0, b) rest)) (g.3 other e),
      )

  seq_reads : (f b : Tokens) (x : A) (y : B) (rest : Tokens) → L f x → M b y → Stops (seq_shape s u).more rest → seq p q (f ++ (b ++ rest)) ≡ Done (x, y) rest
  seq_reads f b x y rest l m h =
      ap (λ o. and_then o (λ a rest. and_then (q rest) (λ b rest. Done (a, b) rest))) (E.all f x (b ++ rest) l (follows b y rest m h))
      ∙ ap (λ o. and_then o (λ b rest. Done (x, b) rest)) (F.all b y rest m (stops_left u.more (cond u.empty s.more []) rest h))

  seq_all : (front : Tokens) (ab : A × B) (rest : Tokens) → Seq L M front ab → Stops (seq_shape s u).more rest → seq p q (front ++ rest) ≡ Done ab rest
  seq_all front ab rest l h =
      ap (λ ts. seq p q (ts ++ rest)) l.2 ∙ ap (seq p q) (append_assoc l.0 l.1 rest) ∙ seq_reads l.0 l.1 ab.0 ab.1 rest l.3 l.4 h

  seq_fault_first : (ts : Tokens) (k : Bool) (rest : Tokens) → p ts ≡ Fault k rest → FaultOf (Seq L M) (seq p q) ts k rest
  seq_fault_first ts k rest h =
      let f = E.fault ts k rest h in
      let b = f.2 in
      let m = F.some in (
        f.0,
        f.1,
        (b.0 ++ m.0, (b.1, m.1), (f.0 ++ b.0, m.0, sym (append_assoc f.0 b.0 m.0), b.2, m.2)),
        λ other e. ap (λ o. and_then o (λ a rest. and_then (q rest) (λ b rest. Done (a, b) rest))) (f.3 other e),
      )

  seq_fault_second : (ts : Tokens) (k : Bool) (rest : Tokens) (a : A) (mid : Tokens) → p ts ≡ Done a mid → q mid ≡ Fault k rest → FaultOf (Seq L M) (seq p q) ts k rest
  seq_fault_second ts k rest a mid h g =
      let f = E.done ts a mid h in
      let b = F.fault mid k rest g in
      let s = b.2 in (
        f.0 ++ b.0,
        parts ts f.0 mid b.0 rest f.1 b.1,
        (s.0, (a, s.1), (f.0, b.0 ++ s.0, append_assoc f.0 b.0 s.0, f.2, s.2)),
        λ other e. ap (seq p q) (append_assoc f.0 b.0 other) ∙ seq_stays a (f.0 ++ (b.0 ++ other)) (b.0 ++ other) (f.3 (b.0 ++ other) (alike_part mid b.0 rest other b.1 e)) ∙ ap (λ o. and_then o (λ b rest. Done (a, b) rest)) (b.3 other e),
      )

  seq_fault : (ts : Tokens) (k : Bool) (rest : Tokens) → seq p q ts ≡ Fault k rest → FaultOf (Seq L M) (seq p q) ts k rest
  seq_fault ts k rest h =
      elim (then_fault (p ts) (λ a rest. and_then (q rest) (λ b rest. Done (a, b) rest)) k rest h) [
        | inl e ↦ seq_fault_first ts k rest e
        | inr x ↦ elim (then_fault (q x.1) (λ b rest. Done (x.0, b) rest) k rest x.3) [
          | inl e ↦ seq_fault_second ts k rest x.0 x.1 x.2 e
          | inr y ↦ absurd (done_fault (x.0, y.0) k y.1 rest y.3)
        ]
      ]

  pub exact_seq : Exact (Seq L M) (seq p q) (seq_shape s u)
  exact_seq = record {
    done = seq_done;
    all = seq_all;
    fault = seq_fault;
    some = (E.some.0 ++ F.some.0, (E.some.1, F.some.1), (E.some.0, F.some.0, refl, E.some.2, F.some.2));
    starts = starts_seq L M s u E.starts F.starts;
  }

-- ---- one token that carries a value

abbrev pub one_shape : List Kind → Shape
one_shape kinds = record { first = kinds; empty = false; more = [] }

module _ {A : Type 0} (kinds : List Kind) (of : Lexeme → Option A) (t : Lexeme) (a₀ : A) (it : is_of kinds t ≡ true) (has : of t ≡ Some a₀) where
  abbrev V : Lang A
  V = Valued kinds of

  abbrev v : Parser A
  v = valued kinds of

  read_by : (o : Option A) (u : Lexeme) (ts : Tokens) (a : A) (rest : Tokens) → is_of kinds u ≡ true → of u ≡ o → carried o u ts ≡ Done a rest → DoneOf V v (u ∷ ts) a rest
  read_by None u ts a rest e w h = absurd (fault_done a false rest (u ∷ ts) h)
  read_by (Some b) u ts a rest e w h = subst (IfDone (DoneOf V v (u ∷ ts))) h (
    u ∷ [],
    refl,
    (u, refl, e, w),
    λ other same. chosen (is_of kinds u) (carried (of u) u other) (Fault false (u ∷ other)) e ∙ ap (λ o. carried o u other) w,
  )

  valued_done : (ts : Tokens) (a : A) (rest : Tokens) → v ts ≡ Done a rest → DoneOf V v ts a rest
  valued_done [] a rest h = absurd (fault_done a false rest [] h)
  valued_done (u ∷ ts) a rest h = elim (which (is_of kinds u)) [
    | inl e ↦ read_by (of u) u ts a rest e refl (sym (chosen (is_of kinds u) (carried (of u) u ts) (Fault false (u ∷ ts)) e) ∙ h)
    | inr e ↦ absurd (fault_done a false rest (u ∷ ts) (sym (other_chosen (is_of kinds u) (carried (of u) u ts) (Fault false (u ∷ ts)) e) ∙ h))
  ]

  valued_all : (front : Tokens) (a : A) (rest : Tokens) → V front a → Stops [] rest → v (front ++ rest) ≡ Done a rest
  valued_all front a rest l h =
      ap (λ ts. v (ts ++ rest)) l.1 ∙ chosen (is_of kinds l.0) (carried (of l.0) l.0 rest) (Fault false (l.0 ∷ rest)) l.2 ∙ ap (λ o. carried o l.0 rest) l.3

  -- the outcome at a token that isn't one of them, by that token alone
  bad_at : (u : Lexeme) (other : Tokens) → v (u ∷ []) ≡ Fault false (u ∷ []) → v (u ∷ other) ≡ Fault false (u ∷ other)
  bad_at u other h = elim (which (is_of kinds u)) [
    | inr e ↦ other_chosen (is_of kinds u) (carried (of u) u other) (Fault false (u ∷ other)) e
    | inl e ↦ (let is : carried (of u) u [] ≡ Fault false (u ∷ []) = sym (chosen (is_of kinds u) (carried (of u) u []) (Fault false (u ∷ [])) e) ∙ h in
        chosen (is_of kinds u) (carried (of u) u other) (Fault false (u ∷ other)) e ∙ by (of u) is)
  ]
    where
      by : (o : Option A) → carried o u [] ≡ Fault false (u ∷ []) → carried o u other ≡ Fault false (u ∷ other)
      by None h = refl
      by (Some a) h = absurd (done_fault a false [] (u ∷ []) h)

  stays_at : (u : Lexeme) (other : Tokens) → v (u ∷ []) ≡ Fault false (u ∷ []) → head other ≡ Some u → v other ≡ Fault false other
  stays_at u [] h same = absurd (none-some u same)
  stays_at u (w ∷ other) h same = let e : w ≡ u = same_Some w u same in
      subst (λ w. v (w ∷ other) ≡ Fault false (w ∷ other)) (sym e) (bad_at u other h)

  stays_end : (other : Tokens) → head other ≡ None → v other ≡ Fault false other
  stays_end [] same = refl
  stays_end (u ∷ other) same = absurd (none-some u (sym same))

  abbrev some_value : Begins V []
  some_value = (t ∷ [], a₀, (t, refl, it, has))

  fault_by : (o : Option A) (u : Lexeme) (ts : Tokens) (k : Bool) (rest : Tokens) → is_of kinds u ≡ true → of u ≡ o → carried o u ts ≡ Fault k rest → FaultOf V v (u ∷ ts) k rest
  fault_by (Some b) u ts k rest e w h = absurd (done_fault b k ts rest h)
  fault_by None u ts k rest e w h = subst (IfFault (FaultOf V v (u ∷ ts))) h (
    [],
    refl,
    some_value,
    λ other same. stays_at u other (chosen (is_of kinds u) (carried (of u) u []) (Fault false (u ∷ [])) e ∙ ap (λ o. carried o u []) w) same,
  )

  valued_fault : (ts : Tokens) (k : Bool) (rest : Tokens) → v ts ≡ Fault k rest → FaultOf V v ts k rest
  valued_fault [] k rest h = subst (IfFault (FaultOf V v [])) h ([], refl, some_value, λ other same. stays_end other same)
  valued_fault (u ∷ ts) k rest h = elim (which (is_of kinds u)) [
    | inl e ↦ fault_by (of u) u ts k rest e refl (sym (chosen (is_of kinds u) (carried (of u) u ts) (Fault false (u ∷ ts)) e) ∙ h)
    | inr e ↦ subst (IfFault (FaultOf V v (u ∷ ts))) (sym (other_chosen (is_of kinds u) (carried (of u) u ts) (Fault false (u ∷ ts)) e) ∙ h) (
      [],
      refl,
      some_value,
      λ other same. stays_at u other (other_chosen (is_of kinds u) (carried (of u) u []) (Fault false (u ∷ [])) e) same,
    )
  ]

  pub exact_valued : Exact V v (one_shape kinds)
  exact_valued = record {
    done = valued_done;
    all = valued_all;
    fault = valued_fault;
    some = (t ∷ [], a₀, (t, refl, it, has));
    starts = λ ts a l. inl (ap (heads kinds) l.1 ∙ l.2);
  }

-- ---- one token

module _ (kinds : List Kind) (t : Lexeme) (it : is_of kinds t ≡ true) where
  one_done_by : (b : Bool) (u : Lexeme) (ts : Tokens) (a : Lexeme) (rest : Tokens) → is_of kinds u ≡ b → cond b (Done u ts) (Fault false (u ∷ ts)) ≡ Done a rest → DoneOf (One kinds) (one kinds) (u ∷ ts) a rest
  one_done_by true u ts a rest e h = subst (IfDone (DoneOf (One kinds) (one kinds) (u ∷ ts))) h (u ∷ [], refl, (refl, e), λ other same. chosen (is_of kinds u) (Done u other) (Fault false (u ∷ other)) e)
  one_done_by false u ts a rest e h = absurd (fault_done a false rest (u ∷ ts) h)

  one_done : (ts : Tokens) (a : Lexeme) (rest : Tokens) → one kinds ts ≡ Done a rest → DoneOf (One kinds) (one kinds) ts a rest
  one_done [] a rest h = absurd (fault_done a false rest [] h)
  one_done (u ∷ ts) a rest h = one_done_by (is_of kinds u) u ts a rest refl h

  one_all : (front : Tokens) (a : Lexeme) (rest : Tokens) → One kinds front a → Stops [] rest → one kinds (front ++ rest) ≡ Done a rest
  one_all front a rest l s = ap (λ ts. one kinds (ts ++ rest)) l.0 ∙ chosen (is_of kinds a) (Done a rest) (Fault false (a ∷ rest)) l.1

  -- a fault depends on the next token alone
  one_stays : (rest other : Tokens) → head other ≡ head rest → one kinds rest ≡ Fault false rest → one kinds other ≡ Fault false other
  one_stays rest [] e h = refl
  one_stays [] (u ∷ other) e h = absurd (none-some u (sym e))
  one_stays (v ∷ rest) (u ∷ other) e h = elim (which (is_of kinds v)) [
    | inl y ↦ absurd (done_fault v false rest (v ∷ rest) (sym (chosen (is_of kinds v) (Done v rest) (Fault false (v ∷ rest)) y) ∙ h))
    | inr n ↦ other_chosen (is_of kinds u) (Done u other) (Fault false (u ∷ other)) (ap (is_of kinds) (same_Some u v e) ∙ n)
  ]

  one_fault_by : (b : Bool) (u : Lexeme) (ts : Tokens) (k : Bool) (rest : Tokens) → is_of kinds u ≡ b → cond b (Done u ts) (Fault false (u ∷ ts)) ≡ Fault k rest → FaultOf (One kinds) (one kinds) (u ∷ ts) k rest
  one_fault_by true u ts k rest e h = absurd (done_fault u k ts rest h)
  one_fault_by false u ts k rest e h = subst (IfFault (FaultOf (One kinds) (one kinds) (u ∷ ts))) h ([], refl, (t ∷ [], t, (refl, it)), λ other same. one_stays (u ∷ ts) other same (other_chosen (is_of kinds u) (Done u ts) (Fault false (u ∷ ts)) e))

  one_fault : (ts : Tokens) (k : Bool) (rest : Tokens) → one kinds ts ≡ Fault k rest → FaultOf (One kinds) (one kinds) ts k rest
  one_fault [] k rest h = subst (IfFault (FaultOf (One kinds) (one kinds) [])) h ([], refl, (t ∷ [], t, (refl, it)), λ other same. one_stays [] other same refl)
  one_fault (u ∷ ts) k rest h = one_fault_by (is_of kinds u) u ts k rest refl h

  pub exact_one : Exact (One kinds) (one kinds) (one_shape kinds)
  exact_one = record { done = one_done; all = one_all; fault = one_fault; some = (t ∷ [], t, (refl, it)); starts = λ ts a l. inl (ap (heads kinds) l.0 ∙ l.1) }

-- ---- another value

module _ {A B : Type 0} (f : A → B) (L : Lang A) (p : Parser A) (s : Shape) (E : Exact L p s) where
  map_done : (ts : Tokens) (b : B) (rest : Tokens) → map_out f p ts ≡ Done b rest → DoneOf (Map f L) (map_out f p) ts b rest
  map_done ts b rest h =
      let x = then_done (p ts) (λ a rest. Done (f a) rest) b rest h in
      let d = E.done ts x.0 x.1 x.2 in
      subst (IfDone (DoneOf (Map f L) (map_out f p) ts)) x.3 (d.0, d.1, (x.0, d.2, refl), λ other same. ap (λ o. and_then o (λ a rest. Done (f a) rest)) (d.3 other same))

  map_all : (front : Tokens) (b : B) (rest : Tokens) → Map f L front b → Stops s.more rest → map_out f p (front ++ rest) ≡ Done b rest
  map_all front b rest l h = ap (λ o. and_then o (λ a rest. Done (f a) rest)) (E.all front l.0 rest l.1 h) ∙ ap (λ b. Done b rest) l.2

  map_fault : (ts : Tokens) (k : Bool) (rest : Tokens) → map_out f p ts ≡ Fault k rest → FaultOf (Map f L) (map_out f p) ts k rest
  map_fault ts k rest h = elim (then_fault (p ts) (λ a rest. Done (f a) rest) k rest h) [
    | inl e ↦ (let x = E.fault ts k rest e in
        (x.0, x.1, (x.2.0, f x.2.1, (x.2.1, x.2.2, refl)), λ other same. ap (λ o. and_then o (λ a rest. Done (f a) rest)) (x.3 other same)))
    | inr x ↦ absurd (done_fault (f x.0) k x.1 rest x.3)
  ]

  pub exact_map : Exact (Map f L) (map_out f p) s
  exact_map = record { done = map_done; all = map_all; fault = map_fault; some = (E.some.0, f E.some.1, (E.some.1, E.some.2, refl)); starts = λ ts b l. E.starts ts l.0 l.1 }

-- ---- nothing

abbrev pub empty_shape : Shape
empty_shape = record { first = []; empty = true; more = [] }

pub exact_empty : {A : Type 0} (none : A) → Exact (Empty none) (empty none) empty_shape
exact_empty {A} none = record {
  done = λ ts a rest h. subst (IfDone (DoneOf (Empty none) (empty none) ts)) h ([], refl, (refl, refl), λ other same. refl);
  all = λ front a rest l h. ap (λ ts. Done none (ts ++ rest)) l.0 ∙ ap (λ a. Done a rest) l.1;
  fault = λ ts k rest h. absurd (done_fault none k ts rest h);
  some = ([], none, (refl, refl));
  starts = λ ts a l. inr (l.0, refl);
}

-- ---- a choice by the next token

abbrev pub alt_shape : List Kind → Shape → Shape → Shape
alt_shape kinds s u = record {
  first = s.first ++ u.first;
  empty = u.empty;
  more = s.more ++ (u.more ++ cond u.empty kinds []);
}

pub same_choice : (kinds : List Kind) (front rest other ts : Tokens) → ts ≡ front ++ rest → head other ≡ head rest → heads kinds (front ++ other) ≡ heads kinds ts
same_choice kinds front rest other ts e same = heads_alike kinds (front ++ rest) (front ++ other) (alike_front front rest other same) ∙ ap (heads kinds) (sym e)

-- the second isn't taken for the first
pub unlike : {A : Type 0} (M : Lang A) (kinds : List Kind) (u : Shape) (more : List Kind) → disjoint u.first kinds ≡ true → ((ts : Tokens) (a : A) → M ts a → StartsWith u.first u.empty ts)
    → (ts : Tokens) (a : A) (rest : Tokens) → M ts a → Stops (u.more ++ cond u.empty kinds []) rest → heads kinds (ts ++ rest) ≡ false
unlike M kinds u more clear S ts a rest m h = elim (S ts a m) [
  | inl f ↦ heads_apart u.first kinds clear (ts ++ rest) (heads_front u.first ts rest f)
  | inr e ↦ subst (λ ts. heads kinds (ts ++ rest) ≡ false) (sym e.0) (cond_right u.empty kinds rest e.1 (stops_right u.more (cond u.empty kinds []) rest h))
]

module _ {A : Type 0} (kinds : List Kind) (L M : Lang A) (p q : Parser A) (s u : Shape) (E : Exact L p s) (F : Exact M q u) (full : s.empty ≡ false) (known : subset s.first kinds ≡ true) (clear : disjoint u.first kinds ≡ true) where
  at_first : (ts : Tokens) (a : A) → L ts a → heads kinds ts ≡ true
  at_first ts a l = elim (E.starts ts a l) [
    | inl f ↦ heads_among s.first kinds known ts f
    | inr e ↦ absurd (false≢true (sym full ∙ e.1))
  ]

  alt_done : (ts : Tokens) (a : A) (rest : Tokens) → alt kinds p q ts ≡ Done a rest → DoneOf (Alt L M) (alt kinds p q) ts a rest
  alt_done ts a rest h = elim (which (heads kinds ts)) [
    | inl e ↦ (let x = E.done ts a rest (sym (chosen (heads kinds ts) (p ts) (q ts) e) ∙ h) in
        (x.0, x.1, inl x.2, λ other same. chosen (heads kinds (x.0 ++ other)) (p (x.0 ++ other)) (q (x.0 ++ other)) (same_choice kinds x.0 rest other ts x.1 same ∙ e) ∙ x.3 other same))
    | inr e ↦ (let x = F.done ts a rest (sym (other_chosen (heads kinds ts) (p ts) (q ts) e) ∙ h) in
        (x.0, x.1, inr x.2, λ other same. other_chosen (heads kinds (x.0 ++ other)) (p (x.0 ++ other)) (q (x.0 ++ other)) (same_choice kinds x.0 rest other ts x.1 same ∙ e) ∙ x.3 other same))
  ]

  alt_all : (front : Tokens) (a : A) (rest : Tokens) → Alt L M front a → Stops (alt_shape kinds s u).more rest → alt kinds p q (front ++ rest) ≡ Done a rest
  alt_all front a rest (inl l) h = chosen (heads kinds (front ++ rest)) (p (front ++ rest)) (q (front ++ rest)) (heads_front kinds front rest (at_first front a l)) ∙ E.all front a rest l (stops_left s.more (u.more ++ cond u.empty kinds []) rest h)
  alt_all front a rest (inr m) h =
      let behind = stops_right s.more (u.more ++ cond u.empty kinds []) rest h in
      other_chosen (heads kinds (front ++ rest)) (p (front ++ rest)) (q (front ++ rest)) (unlike M kinds u [] clear F.starts front a rest m behind) ∙ F.all front a rest m (stops_left u.more (cond u.empty kinds []) rest behind)

  alt_fault : (ts : Tokens) (k : Bool) (rest : Tokens) → alt kinds p q ts ≡ Fault k rest → FaultOf (Alt L M) (alt kinds p q) ts k rest
  alt_fault ts k rest h = elim (which (heads kinds ts)) [
    | inl e ↦ (let x = E.fault ts k rest (sym (chosen (heads kinds ts) (p ts) (q ts) e) ∙ h) in
        (x.0, x.1, (x.2.0, x.2.1, inl x.2.2), λ other same. chosen (heads kinds (x.0 ++ other)) (p (x.0 ++ other)) (q (x.0 ++ other)) (same_choice kinds x.0 rest other ts x.1 same ∙ e) ∙ x.3 other same))
    | inr e ↦ (let x = F.fault ts k rest (sym (other_chosen (heads kinds ts) (p ts) (q ts) e) ∙ h) in
        (x.0, x.1, (x.2.0, x.2.1, inr x.2.2), λ other same. other_chosen (heads kinds (x.0 ++ other)) (p (x.0 ++ other)) (q (x.0 ++ other)) (same_choice kinds x.0 rest other ts x.1 same ∙ e) ∙ x.3 other same))
  ]

  alt_starts : (ts : Tokens) (a : A) → Alt L M ts a → StartsWith (alt_shape kinds s u).first (alt_shape kinds s u).empty ts
  alt_starts ts a (inl l) = elim (E.starts ts a l) [
    | inl f ↦ inl (heads_left s.first u.first ts f)
    | inr e ↦ absurd (false≢true (sym full ∙ e.1))
  ]
  alt_starts ts a (inr m) = elim (F.starts ts a m) [
    | inl f ↦ inl (heads_right s.first u.first ts f)
    | inr e ↦ inr e
  ]

  pub exact_alt : Exact (Alt L M) (alt kinds p q) (alt_shape kinds s u)
  exact_alt = record { done = alt_done; all = alt_all; fault = alt_fault; some = (E.some.0, E.some.1, inl E.some.2); starts = alt_starts }

-- ---- any number of sentences

abbrev pub many_shape : List Kind → Shape → Shape
many_shape kinds s = record { first = kinds; empty = true; more = s.more ++ kinds }

-- a part that isn't empty takes a turn
turn_taken : (kinds : List Kind) (f back : Tokens) (m : ℕ) → heads kinds f ≡ true → length (f ++ back) ≤ m → (n : ℕ) × (m ≡ suc n) × (length back ≤ n)
turn_taken kinds [] back m h le = absurd (false≢true h)
turn_taken kinds (t ∷ f) back zero h le = absurd (omega arith)
turn_taken kinds (t ∷ f) back (suc m) h le = (m, refl, omega (arith, length-append f back))

module _ {A : Type 0} (kinds : List Kind) (L : Lang A) (p : Parser A) (s : Shape) (E : Exact L p s) (full : s.empty ≡ false) (known : subset s.first kinds ≡ true) (clear : disjoint kinds s.more ≡ true) where
  is_first : (ts : Tokens) (a : A) → L ts a → heads kinds ts ≡ true
  is_first ts a l = elim (E.starts ts a l) [
    | inl f ↦ heads_among s.first kinds known ts f
    | inr e ↦ absurd (false≢true (sym full ∙ e.1))
  ]

  abbrev many_rest : ℕ → A → Parser (List A)
  many_rest n a rest = and_then (many_in n kinds p rest) (λ items rest. Done (a ∷ items) rest)

  many_stop : (m : ℕ) (ts : Tokens) → heads kinds ts ≡ false → many_in m kinds p ts ≡ Done [] ts
  many_stop zero ts e = other_chosen (heads kinds ts) (Fault false ts) (Done [] ts) e
  many_stop (suc m) ts e = other_chosen (heads kinds ts) (and_then (p ts) (many_rest m)) (Done [] ts) e

  many_turn : (m : ℕ) (ts mid : Tokens) (a : A) → heads kinds ts ≡ true → p ts ≡ Done a mid → many_in (suc m) kinds p ts ≡ many_rest m a mid
  many_turn m ts mid a e h = chosen (heads kinds ts) (and_then (p ts) (many_rest m)) (Done [] ts) e ∙ ap (λ o. and_then o (many_rest m)) h

  many_stops : (items : List A) (b rest : Tokens) → Many L b items → Stops (many_shape kinds s).more rest → Stops s.more (b ++ rest)
  many_stops [] b rest l h = subst (λ ts. Stops s.more (ts ++ rest)) (sym l) (stops_left s.more kinds rest h)
  many_stops (a ∷ items) b rest l h =
      heads_apart kinds s.more clear (b ++ rest) (heads_front kinds b rest (ap (heads kinds) l.2 ∙ heads_front kinds l.0 l.1 (is_first l.0 a l.3)))

  many_all : (m : ℕ) (items : List A) (front rest : Tokens) → length (front ++ rest) ≤ m → Many L front items → Stops (many_shape kinds s).more rest → many_in m kinds p (front ++ rest) ≡ Done items rest
  many_all m [] front rest le l h =
      ap (λ ts. many_in m kinds p (ts ++ rest)) l ∙ many_stop m rest (stops_right s.more kinds rest h)
  many_all zero (a ∷ items) front rest le l h =
      let n = turn_taken kinds l.0 (l.1 ++ rest) zero (is_first l.0 a l.3) (subst (λ ts. length ts ≤ zero) (ap (λ ts. ts ++ rest) l.2 ∙ append_assoc l.0 l.1 rest) le) in
      absurd (omega (arith, n.1))
  many_all (suc m) (a ∷ items) front rest le l h =
      let regrouped : front ++ rest ≡ l.0 ++ (l.1 ++ rest) = ap (λ ts. ts ++ rest) l.2 ∙ append_assoc l.0 l.1 rest in
      let n = turn_taken kinds l.0 (l.1 ++ rest) (suc m) (is_first l.0 a l.3) (subst (λ ts. length ts ≤ suc m) regrouped le) in
      let less : length (l.1 ++ rest) ≤ m = omega (arith, n.1, n.2) in
      ap (many_in (suc m) kinds p) regrouped
      ∙ many_turn m (l.0 ++ (l.1 ++ rest)) (l.1 ++ rest) a (heads_front kinds l.0 (l.1 ++ rest) (is_first l.0 a l.3)) (E.all l.0 a (l.1 ++ rest) l.3 (many_stops items l.1 rest l.4 h))
      ∙ ap (λ o. and_then o (λ items rest. Done (a ∷ items) rest)) (many_all m items l.1 rest less l.4 h)

  abbrev ManyDone : Tokens → List A → Tokens → Type 0
  ManyDone ts items rest = (front : Tokens) × (ts ≡ front ++ rest) × Many L front items × ((m : ℕ) (other : Tokens) → head other ≡ head rest → length (front ++ other) ≤ m → many_in m kinds p (front ++ other) ≡ Done items other)

  abbrev ManyFault : Tokens → Bool → Tokens → Type 0
  ManyFault ts k rest = (front : Tokens) × (ts ≡ front ++ rest) × Begins (Many L) front × ((m : ℕ) (other : Tokens) → head other ≡ head rest → length (front ++ other) ≤ m → many_in m kinds p (front ++ other) ≡ Fault k other)

  many_done_stop : (ts : Tokens) (items : List A) (rest : Tokens) → heads kinds ts ≡ false → Done [] ts ≡ Done items rest → ManyDone ts items rest
  many_done_stop ts items rest e h = subst (IfDone (ManyDone ts)) h ([], refl, refl, λ m other same le. many_stop m other (heads_alike kinds ts other same ∙ e))

  -- a turn, whatever follows
  many_again : (f g other ts mid : Tokens) (a : A) (m : ℕ) (o : Outcome (List A)) → L f a → ((other : Tokens) → head other ≡ head mid → p (f ++ other) ≡ Done a other) → head (g ++ other) ≡ head mid
      → length (f ++ g ++ other) ≤ m → ((n : ℕ) → length (g ++ other) ≤ n → many_in n kinds p (g ++ other) ≡ o) → many_in m kinds p (f ++ g ++ other) ≡ and_then o (λ items rest. Done (a ∷ items) rest)
  many_again f g other ts mid a m o l stays same le later =
      let regrouped : f ++ g ++ other ≡ f ++ (g ++ other) = append_assoc f g other in
      let n = turn_taken kinds f (g ++ other) m (is_first f a l) (subst (λ ts. length ts ≤ m) regrouped le) in
      ap (λ m. many_in m kinds p (f ++ g ++ other)) n.1
      ∙ ap (many_in (suc n.0) kinds p) regrouped
      ∙ many_turn n.0 (f ++ (g ++ other)) (g ++ other) a (heads_front kinds f (g ++ other) (is_first f a l)) (stays (g ++ other) same)
      ∙ ap (λ o. and_then o (λ items rest. Done (a ∷ items) rest)) (later n.0 n.2)

  many_done : (m : ℕ) (ts : Tokens) (items : List A) (rest : Tokens) → many_in m kinds p ts ≡ Done items rest → ManyDone ts items rest
  many_done zero ts items rest h = elim (which (heads kinds ts)) [
    | inl e ↦ absurd (fault_done items false rest ts (sym (chosen (heads kinds ts) (Fault false ts) (Done [] ts) e) ∙ h))
    | inr e ↦ many_done_stop ts items rest e (sym (other_chosen (heads kinds ts) (Fault false ts) (Done [] ts) e) ∙ h)
  ]
  many_done (suc m) ts items rest h = elim (which (heads kinds ts)) [
    | inl e ↦ (
        let x = then_done (p ts) (many_rest m) items rest (sym (chosen (heads kinds ts) (and_then (p ts) (many_rest m)) (Done [] ts) e) ∙ h) in
        let y = then_done (many_in m kinds p x.1) (λ items rest. Done (x.0 ∷ items) rest) items rest x.3 in
        let f = E.done ts x.0 x.1 x.2 in
        let g = many_done m x.1 y.0 y.1 y.2 in
        subst (IfDone (ManyDone ts)) y.3 (
          f.0 ++ g.0,
          parts ts f.0 x.1 g.0 y.1 f.1 g.1,
          (f.0, g.0, refl, f.2, g.2),
          λ n other same le. many_again f.0 g.0 other ts x.1 x.0 n (Done y.0 other) f.2 f.3 (alike_part x.1 g.0 y.1 other g.1 same) le (λ n le. g.3 n other same le),
        ))
    | inr e ↦ many_done_stop ts items rest e (sym (other_chosen (heads kinds ts) (and_then (p ts) (many_rest m)) (Done [] ts) e) ∙ h)
  ]

  many_fault : (m : ℕ) (ts : Tokens) (k : Bool) (rest : Tokens) → length ts ≤ m → many_in m kinds p ts ≡ Fault k rest → ManyFault ts k rest
  many_fault zero [] k rest le h = absurd (done_fault [] k [] rest h)
  many_fault zero (t ∷ ts) k rest le h = absurd (omega arith)
  many_fault (suc m) ts k rest le h = elim (which (heads kinds ts)) [
    | inr e ↦ absurd (done_fault [] k ts rest (sym (other_chosen (heads kinds ts) (and_then (p ts) (many_rest m)) (Done [] ts) e) ∙ h))
    | inl e ↦ elim (then_fault (p ts) (many_rest m) k rest (sym (chosen (heads kinds ts) (and_then (p ts) (many_rest m)) (Done [] ts) e) ∙ h)) [
      | inl bad ↦ (
          let f = E.fault ts k rest bad in
          let b = f.2 in (
            f.0,
            f.1,
            (b.0, b.1 ∷ [], (f.0 ++ b.0, [], sym (append-nil (f.0 ++ b.0)), b.2, refl)),
            λ n other same le. many_bad f.0 other n k (same_choice kinds f.0 rest other ts f.1 same ∙ e) (f.3 other same) le,
          ))
      | inr x ↦ elim (then_fault (many_in m kinds p x.1) (λ items rest. Done (x.0 ∷ items) rest) k rest x.3) [
        | inr y ↦ absurd (done_fault (x.0 ∷ y.0) k y.1 rest y.3)
        | inl bad ↦ (
            let f = E.done ts x.0 x.1 x.2 in
            let n = turn_taken kinds f.0 x.1 (suc m) (is_first f.0 x.0 f.2) (subst (λ ts. length ts ≤ suc m) f.1 le) in
            let less : length x.1 ≤ m = omega (arith, n.1, n.2) in
            let g = many_fault m x.1 k rest less bad in
            let b = g.2 in (
              f.0 ++ g.0,
              parts ts f.0 x.1 g.0 rest f.1 g.1,
              (b.0, x.0 ∷ b.1, (f.0, g.0 ++ b.0, append_assoc f.0 g.0 b.0, f.2, b.2)),
              λ n other same le. many_again f.0 g.0 other ts x.1 x.0 n (Fault k other) f.2 f.3 (alike_part x.1 g.0 rest other g.1 same) le (λ n le. g.3 n other same le),
            ))
      ]
    ]
  ]
    where
      many_bad : (f other : Tokens) (n : ℕ) (k : Bool) → heads kinds (f ++ other) ≡ true → p (f ++ other) ≡ Fault k other → length (f ++ other) ≤ n → many_in n kinds p (f ++ other) ≡ Fault k other
      many_bad f other n k e bad le =
          let m = turn_taken kinds (f ++ other) [] n e (subst (λ ts. length ts ≤ n) (sym (append-nil (f ++ other))) le) in
          ap (λ n. many_in n kinds p (f ++ other)) m.1
          ∙ chosen (heads kinds (f ++ other)) (and_then (p (f ++ other)) (many_rest m.0)) (Done [] (f ++ other)) e
          ∙ ap (λ o. and_then o (many_rest m.0)) bad

  many_starts : (ts : Tokens) (items : List A) → Many L ts items → StartsWith kinds true ts
  many_starts ts [] l = inr (l, refl)
  many_starts ts (a ∷ items) l = inl (ap (heads kinds) l.2 ∙ heads_front kinds l.0 l.1 (is_first l.0 a l.3))

  pub exact_many : Exact (Many L) (many kinds p) (many_shape kinds s)
  exact_many = record {
    done = λ ts items rest h. (let x = many_done (length ts) ts items rest h in (x.0, x.1, x.2, λ other same. x.3 (length (x.0 ++ other)) other same (omega arith)));
    all = λ front items rest l h. many_all (length (front ++ rest)) items front rest (omega arith) l h;
    fault = λ ts k rest h. (let x = many_fault (length ts) ts k rest (omega arith) h in (x.0, x.1, x.2, λ other same. x.3 (length (x.0 ++ other)) other same (omega arith)));
    some = ([], [], refl);
    starts = many_starts;
  }

-- ---- a wider shape, and the same language in other words

within_empty : (a b : Bool) → (cond a b true) ≡ true → a ≡ true → b ≡ true
within_empty true b h e = h
within_empty false b h e = absurd (false≢true e)

pub exact_within : {A : Type 0} (L : Lang A) (p : Parser A) (s u : Shape) → subset s.first u.first ≡ true → cond s.empty u.empty true ≡ true → subset s.more u.more ≡ true → Exact L p s → Exact L p u
exact_within L p s u first may more E = record {
  done = E.done;
  all = λ front a rest l h. E.all front a rest l (stops_within s.more u.more more rest h);
  fault = E.fault;
  some = E.some;
  starts = λ ts a l. elim (E.starts ts a l) [
    | inl f ↦ inl (heads_among s.first u.first first ts f)
    | inr e ↦ inr (e.0, within_empty s.empty u.empty may e.1)
  ];
}

pub exact_same : {A : Type 0} (L M : Lang A) (p : Parser A) (s : Shape) → ((ts : Tokens) (a : A) → L ts a → M ts a) → ((ts : Tokens) (a : A) → M ts a → L ts a) → Exact L p s → Exact M p s
exact_same L M p s to of E = record {
  done = λ ts a rest h. (let d = E.done ts a rest h in (d.0, d.1, to d.0 a d.2, d.3));
  all = λ front a rest m h. E.all front a rest (of front a m) h;
  fault = λ ts k rest h. (let f = E.fault ts k rest h in (f.0, f.1, (f.2.0, f.2.1, to (f.0 ++ f.2.0) f.2.1 f.2.2), f.3));
  some = (E.some.0, E.some.1, to E.some.0 E.some.1 E.some.2);
  starts = λ ts a m. E.starts ts a (of ts a m);
}
