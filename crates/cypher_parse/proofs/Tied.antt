-- A rule at one number of levels and at one more: both parsers are exact, and the deeper one goes on where the other found
-- too much open. A rule made of such rules is one. The first of the two may ask that a level is left.
use Rattle.std.proofs.Common.{◌≡◌, inl, inr, Bool, true, false, ◌||◌, cond, List, [], ◌∷◌, ◌++◌, Option, Some, refl, sym, ap, ◌∙◌, subst}
use Rattle.std.proofs.lemmas.Bool.{false≢true}
use Rattle.std.proofs.lemmas.Bool.Decides.{Decides-eqb}
use Rattle.std.proofs.Math.Path.{fun_ext}
use Rattle.cypher_parse.specs.declared.kind.Kind.{Kind}
use Rattle.cypher_parse.specs.declared.lexeme.Lexeme.{Lexeme}
use Rattle.cypher_parse.specs.declared.lexeme.Payload.TheVariants.{Bare}
use Rattle.cypher_parse.specs.Kinds.{number, member, disjoint, subset}
use Rattle.cypher_parse.specs.Answer.{Begins}
use Rattle.cypher_parse.specs.Languages.{Tokens, Lang, is_of, One, Valued, Seq, Map, After, Before, Empty, Alt, Opt, Many, Chain, Some1, Listed, Enter}
use Rattle.cypher_parse.specs.Parsers.{Outcome, Done, Fault, Parser, and_then, heads, one, valued, seq, map_out, after, before, empty, alt, opt, unless, many, chain, some1, listed, enter}
use Rattle.cypher_parse.proofs.Sets.{which, chosen, other_chosen, Stops, heads_right, stops_left, stops_right, heads_alike}
use Rattle.cypher_parse.proofs.Exact.{Shape, Exact, StartsWith, DoneOf, FaultOf, IfFault, fault_done, one_shape, seq_shape, alt_shape, many_shape, empty_shape, exact_one, exact_valued, exact_seq, exact_map, exact_empty, exact_alt, exact_many, exact_within, exact_same, same_choice, unlike}
use Rattle.cypher_parse.proofs.Deeper.{Deeper, Opens, Opened, Grows, agrees_itself, seq_deeper, map_deeper, alt_deeper, many_deeper, if_deeper, grows, opens_in, alt_opens, one_opens, valued_opens, seq_opens, map_opens, empty_opens, many_opens}

pub record Tied {A : Type 0} (b : Bool) (L M : Lang A) (p q : Parser A) (s : Shape) : Type 0 where
  pub high : Exact M q s
  pub low : b ≡ true → Exact L p s
  pub deeper : b ≡ true → Deeper p q
  pub opens : b ≡ true → Opens M p

wider : {A : Type 0} {b : Bool} {L M : Lang A} {p q : Parser A} {s : Shape} → Tied b L M p q s → b ≡ true → Grows L M
wider {L = L} {M = M} {p = p} {q = q} {s = s} T h = grows L M p q s s (T.low h) T.high (T.deeper h)

-- a token of a kind
abbrev pub bare : Kind → Lexeme
bare k = record { kind = k; payload = Bare; place = 0 }

same_number : (k : Kind) (ks : List Kind) → is_of (k ∷ ks) (bare k) ≡ true
same_number k ks = ap (λ b. b || member (number k) ks) ((Decides-eqb (number k) (number k)).1 refl)

pub tied_one : {b : Bool} (k : Kind) (ks : List Kind) → Tied b (One (k ∷ ks)) (One (k ∷ ks)) (one (k ∷ ks)) (one (k ∷ ks)) (one_shape (k ∷ ks))
tied_one k ks =
    let E = exact_one (k ∷ ks) (bare k) (same_number k ks) in
    record { high = E; low = λ h. E; deeper = λ h ts. agrees_itself (one (k ∷ ks) ts); opens = λ h. one_opens (One (k ∷ ks)) (k ∷ ks) }

pub tied_valued : {A : Type 0} {b : Bool} (kinds : List Kind) (of : Lexeme → Option A) (t : Lexeme) (a : A) → is_of kinds t ≡ true → of t ≡ Some a → Tied b (Valued kinds of) (Valued kinds of) (valued kinds of) (valued kinds of) (one_shape kinds)
tied_valued kinds of t a is has =
    let E = exact_valued kinds of t a is has in
    record { high = E; low = λ h. E; deeper = λ h ts. agrees_itself (valued kinds of ts); opens = λ h. valued_opens (Valued kinds of) kinds of }

pub tied_seq : {A B : Type 0} {b : Bool} {L L' : Lang A} {M M' : Lang B} {p p' : Parser A} {q q' : Parser B} {s u : Shape} → Tied b L L' p p' s → Tied b M M' q q' u → disjoint u.first s.more ≡ true → Tied b (Seq L M) (Seq L' M') (seq p q) (seq p' q') (seq_shape s u)
tied_seq {L = L} {L' = L'} {M = M} {M' = M'} {p = p} {p' = p'} {q = q} {q' = q'} {s = s} {u = u} T U clear = record {
  high = exact_seq L' M' p' q' s u T.high U.high clear;
  low = λ h. exact_seq L M p q s u (T.low h) (U.low h) clear;
  deeper = λ h. seq_deeper p p' q q' (T.deeper h) (U.deeper h);
  opens = λ h. seq_opens L L' M' p q s (T.low h) (wider T h) (T.opens h) U.high.some (U.opens h);
}

pub tied_map : {A B : Type 0} {b : Bool} {L M : Lang A} {p q : Parser A} {s : Shape} (f : A → B) → Tied b L M p q s → Tied b (Map f L) (Map f M) (map_out f p) (map_out f q) s
tied_map {L = L} {M = M} {p = p} {q = q} {s = s} f T = record {
  high = exact_map f M q s T.high;
  low = λ h. exact_map f L p s (T.low h);
  deeper = λ h. map_deeper f p q (T.deeper h);
  opens = λ h. map_opens f M p (T.opens h);
}

pub tied_empty : {A : Type 0} {b : Bool} (none : A) → Tied b (Empty none) (Empty none) (empty none) (empty none) empty_shape
tied_empty none = record { high = exact_empty none; low = λ h. exact_empty none; deeper = λ h ts. refl; opens = λ h. empty_opens none (Empty none) }

pub tied_alt : {A : Type 0} {b : Bool} {L L' M M' : Lang A} {p p' q q' : Parser A} {s u : Shape} (kinds : List Kind) → Tied b L L' p p' s → Tied b M M' q q' u → s.empty ≡ false → subset s.first kinds ≡ true → disjoint u.first kinds ≡ true
    → Tied b (Alt L M) (Alt L' M') (alt kinds p q) (alt kinds p' q') (alt_shape kinds s u)
tied_alt {L = L} {L' = L'} {M = M} {M' = M'} {p = p} {p' = p'} {q = q} {q' = q'} {s = s} {u = u} kinds T U full known clear = record {
  high = exact_alt kinds L' M' p' q' s u T.high U.high full known clear;
  low = λ h. exact_alt kinds L M p q s u (T.low h) (U.low h) full known clear;
  deeper = λ h. alt_deeper kinds p p' q q' (T.deeper h) (U.deeper h);
  opens = λ h. alt_opens kinds (Alt L' M') p q (opens_in L' (Alt L' M') p (λ ts a l. inl l) (T.opens h)) (opens_in M' (Alt L' M') q (λ ts a m. inr m) (U.opens h));
}

pub tied_many : {A : Type 0} {b : Bool} {L M : Lang A} {p q : Parser A} {s : Shape} (kinds : List Kind) → Tied b L M p q s → s.empty ≡ false → subset s.first kinds ≡ true → disjoint kinds s.more ≡ true → Tied b (Many L) (Many M) (many kinds p) (many kinds q) (many_shape kinds s)
tied_many {L = L} {M = M} {p = p} {q = q} {s = s} kinds T full known clear = record {
  high = exact_many kinds M q s T.high full known clear;
  low = λ h. exact_many kinds L p s (T.low h) full known clear;
  deeper = λ h. many_deeper kinds p q (T.deeper h);
  opens = λ h. many_opens kinds L M p s (T.low h) (wider T h) (T.opens h);
}

pub tied_within : {A : Type 0} {b : Bool} {L M : Lang A} {p q : Parser A} {s : Shape} (u : Shape) → Tied b L M p q s → subset s.first u.first ≡ true → cond s.empty u.empty true ≡ true → subset s.more u.more ≡ true → Tied b L M p q u
tied_within {L = L} {M = M} {p = p} {q = q} {s = s} u T first may more = record {
  high = exact_within M q s u first may more T.high;
  low = λ h. exact_within L p s u first may more (T.low h);
  deeper = T.deeper;
  opens = T.opens;
}

-- two languages with the same sentences
pub record Same {A : Type 0} (L M : Lang A) : Type 0 where
  pub to : (ts : Tokens) (a : A) → L ts a → M ts a
  pub of : (ts : Tokens) (a : A) → M ts a → L ts a

pub tied_same : {A : Type 0} {b : Bool} {L L' M M' : Lang A} {p q : Parser A} {s : Shape} → Same L L' → Same M M' → Tied b L M p q s → Tied b L' M' p q s
tied_same {L = L} {L' = L'} {M = M} {M' = M'} {p = p} {q = q} {s = s} S U T = record {
  high = exact_same M M' q s U.to U.of T.high;
  low = λ h. exact_same L L' p s S.to S.of (T.low h);
  deeper = T.deeper;
  opens = λ h. opens_in M M' p U.to (T.opens h);
}

-- ---- words of the grammar

disjoint_none : (xs : List Kind) → disjoint xs [] ≡ true
disjoint_none [] = refl
disjoint_none (x ∷ xs) = disjoint_none xs

abbrev pub after_shape : List Kind → Shape → Shape
after_shape kinds s = seq_shape (one_shape kinds) s

pub tied_after : {A : Type 0} {b : Bool} {L M : Lang A} {p q : Parser A} {s : Shape} (k : Kind) (ks : List Kind) → Tied b L M p q s → Tied b (After (k ∷ ks) L) (After (k ∷ ks) M) (after (k ∷ ks) p) (after (k ∷ ks) q) (after_shape (k ∷ ks) s)
tied_after {s = s} k ks T = tied_map (λ p. p.1) (tied_seq (tied_one k ks) T (disjoint_none s.first))

pub tied_before : {A : Type 0} {b : Bool} {L M : Lang A} {p q : Parser A} {s : Shape} (k : Kind) (ks : List Kind) → Tied b L M p q s → disjoint (k ∷ ks) s.more ≡ true
    → Tied b (Before L (k ∷ ks)) (Before M (k ∷ ks)) (before p (k ∷ ks)) (before q (k ∷ ks)) (seq_shape s (one_shape (k ∷ ks)))
tied_before k ks T clear = tied_map (λ p. p.0) (tied_seq T (tied_one k ks) clear)

pub tied_opt : {A : Type 0} {b : Bool} {L M : Lang A} {p q : Parser A} {s : Shape} (kinds : List Kind) (none : A) → Tied b L M p q s → s.empty ≡ false → subset s.first kinds ≡ true
    → Tied b (Opt none L) (Opt none M) (opt kinds none p) (opt kinds none q) (alt_shape kinds s empty_shape)
tied_opt kinds none T full known = tied_alt kinds T (tied_empty none) full known refl

pub tied_chain : {A B : Type 0} {b : Bool} {L L' : Lang A} {M M' : Lang B} {p p' : Parser A} {q q' : Parser B} {s u : Shape} (kinds : List Kind) → Tied b L L' p p' s → Tied b M M' q q' u → u.empty ≡ false → subset u.first kinds ≡ true → disjoint kinds u.more ≡ true → disjoint kinds s.more ≡ true
    → Tied b (Chain L M) (Chain L' M') (chain p kinds q) (chain p' kinds q') (seq_shape s (many_shape kinds u))
tied_chain kinds T U full known clear apart = tied_seq T (tied_many kinds U full known clear) apart

pub tied_some1 : {A : Type 0} {b : Bool} {L M : Lang A} {p q : Parser A} {s : Shape} (kinds : List Kind) → Tied b L M p q s → s.empty ≡ false → subset s.first kinds ≡ true → disjoint kinds s.more ≡ true
    → Tied b (Some1 L) (Some1 M) (some1 kinds p) (some1 kinds q) (seq_shape s (many_shape kinds s))
tied_some1 kinds T full known clear = tied_map (λ p. p.0 ∷ p.1) (tied_chain kinds T T full known clear clear)

pub tied_listed : {A : Type 0} {b : Bool} {L M : Lang A} {p q : Parser A} {s : Shape} (k : Kind) → Tied b L M p q s → disjoint (k ∷ []) (after_shape (k ∷ []) s).more ≡ true → disjoint (k ∷ []) s.more ≡ true → subset (k ∷ []) (k ∷ []) ≡ true
    → Tied b (Listed (k ∷ []) L) (Listed (k ∷ []) M) (listed (k ∷ []) p) (listed (k ∷ []) q) (seq_shape s (many_shape (k ∷ []) (after_shape (k ∷ []) s)))
tied_listed k T clear apart itself = tied_map (λ p. p.0 ∷ p.1) (tied_chain (k ∷ []) T (tied_after k [] T) refl itself clear apart)

-- ---- what opens a level, or something else

-- no level is left: what opens one is a fault
module _ {A B : Type 0} (kinds : List Kind) (f : A → B) (X : Lang A) (M : Lang B) (p : Parser A) (q : Parser B) (s u : Shape) (F : Exact M q u) (clear : disjoint u.first kinds ≡ true) where
  abbrev Shut : Lang B
  Shut = Alt (Enter false kinds f X) M

  abbrev shut : Parser B
  shut = alt kinds (enter false kinds f p) q

  at_other : (ts : Tokens) → heads kinds ts ≡ false → shut ts ≡ q ts
  at_other ts e = other_chosen (heads kinds ts) (Fault true ts) (q ts) e

  at_opening : (ts : Tokens) → heads kinds ts ≡ true → shut ts ≡ Fault true ts
  at_opening ts e = chosen (heads kinds ts) (Fault true ts) (q ts) e

  shut_done : (ts : Tokens) (a : B) (rest : Tokens) → shut ts ≡ Done a rest → DoneOf Shut shut ts a rest
  shut_done ts a rest h = elim (which (heads kinds ts)) [
    | inl e ↦ absurd (fault_done a true rest ts (sym (at_opening ts e) ∙ h))
    | inr e ↦ (let x = F.done ts a rest (sym (at_other ts e) ∙ h) in
        (x.0, x.1, inr x.2, λ other same. at_other (x.0 ++ other) (same_choice kinds x.0 rest other ts x.1 same ∙ e) ∙ x.3 other same))
  ]

  shut_all : (front : Tokens) (a : B) (rest : Tokens) → Shut front a → Stops (alt_shape kinds s u).more rest → shut (front ++ rest) ≡ Done a rest
  shut_all front a rest (inl l) h = absurd l
  shut_all front a rest (inr m) h =
      let behind = stops_right s.more (u.more ++ cond u.empty kinds []) rest h in
      at_other (front ++ rest) (unlike M kinds u [] clear F.starts front a rest m behind) ∙ F.all front a rest m (stops_left u.more (cond u.empty kinds []) rest behind)

  shut_fault : (ts : Tokens) (k : Bool) (rest : Tokens) → shut ts ≡ Fault k rest → FaultOf Shut shut ts k rest
  shut_fault ts k rest h = elim (which (heads kinds ts)) [
    | inl e ↦ (let x = F.some in
        subst (IfFault (FaultOf Shut shut ts)) (sym (at_opening ts e) ∙ h) ([], refl, (x.0, x.1, inr x.2), λ other same. at_opening other (heads_alike kinds ts other same ∙ e)))
    | inr e ↦ (let x = F.fault ts k rest (sym (at_other ts e) ∙ h) in
        (x.0, x.1, (x.2.0, x.2.1, inr x.2.2), λ other same. at_other (x.0 ++ other) (same_choice kinds x.0 rest other ts x.1 same ∙ e) ∙ x.3 other same))
  ]

  shut_starts : (ts : Tokens) (a : B) → Shut ts a → StartsWith (alt_shape kinds s u).first (alt_shape kinds s u).empty ts
  shut_starts ts a (inl l) = absurd l
  shut_starts ts a (inr m) = elim (F.starts ts a m) [
    | inl f ↦ inl (heads_right s.first u.first ts f)
    | inr e ↦ inr e
  ]

  exact_shut : Exact Shut shut (alt_shape kinds s u)
  exact_shut = record { done = shut_done; all = shut_all; fault = shut_fault; some = (F.some.0, F.some.1, inr F.some.2); starts = shut_starts }

abbrev Entered : {A B : Type 0} → Bool → List Kind → (A → B) → Lang A → Lang B → Lang B
Entered b kinds f X M = Alt (Enter b kinds f X) M

abbrev entered : {A B : Type 0} → Bool → List Kind → (A → B) → Parser A → Parser B → Parser B
entered b kinds f p q = alt kinds (enter b kinds f p) q

abbrev rest_of : {B : Type 0} → Outcome B → Tokens
rest_of (Done a rest) = rest
rest_of (Fault k rest) = rest

abbrev too_deep : (B : Type 0) → Tokens → Outcome B
too_deep B ts = Fault true ts

module _ {A B : Type 0} (X X' : Lang A) (M M' : Lang B) (p p' : Parser A) (q q' : Parser B) (s u : Shape) (k : Kind) (f : A → B) (U : Tied true M M' q q' u) (itself : subset ((k ∷ []) ++ []) (k ∷ []) ≡ true) (clear : disjoint u.first (k ∷ []) ≡ true) where
  -- a token of the kind begins what opens a level
  begun : Exact X' p' s → (t : Lexeme) → is_of (k ∷ []) t ≡ true → Begins (Entered true (k ∷ []) f X' M') (t ∷ [])
  begun F t is = let x = F.some in (x.0, f x.1, inl (x.1, ((t, x.1), (t ∷ [], x.0, refl, (refl, is), x.2), refl), refl))

  opened_at : Exact X' p' s → (ts rest : Tokens) → heads (k ∷ []) ts ≡ true → too_deep B ts ≡ Fault true rest → Opened (Entered true (k ∷ []) f X' M') ts rest
  opened_at F [] rest e h = absurd (false≢true e)
  opened_at F (t ∷ ts) rest e h = ([], t, ts, refl, sym (ap rest_of h), begun F t e)

  enter_tied : (b : Bool) → Tied b X X' p p' s → Tied true (Entered b (k ∷ []) f X M) (Entered true (k ∷ []) f X' M') (entered b (k ∷ []) f p q) (entered true (k ∷ []) f p' q') (alt_shape (k ∷ []) (after_shape (k ∷ []) s) u)
  enter_tied true T = tied_alt (k ∷ []) (tied_map f (tied_after k [] T)) U refl itself clear
  enter_tied false T = record {
    high = exact_alt (k ∷ []) (Map f (After (k ∷ []) X')) M' (map_out f (after (k ∷ []) p')) q' (after_shape (k ∷ []) s) u (tied_map f (tied_after k [] T)).high U.high refl itself clear;
    low = λ h. exact_shut (k ∷ []) f X M p q (after_shape (k ∷ []) s) u (U.low refl) clear;
    deeper = λ h ts. if_deeper (heads (k ∷ []) ts) (Fault true ts) (map_out f (after (k ∷ []) p') ts) (q ts) (q' ts) tt (U.deeper refl ts);
    opens = λ h ts rest bad. elim (which (heads (k ∷ []) ts)) [
      | inl e ↦ opened_at T.high ts rest e (sym (chosen (heads (k ∷ []) ts) (Fault true ts) (q ts) e) ∙ bad)
      | inr e ↦ (let o = U.opens refl ts rest (sym (other_chosen (heads (k ∷ []) ts) (Fault true ts) (q ts) e) ∙ bad) in
          (o.0, o.1, o.2, o.3, o.4, (o.5.0, o.5.1, inr o.5.2)))
    ];
  }

-- a level's opening token and what stands behind it, or something else
pub tied_enter : {A B : Type 0} {b : Bool} {X X' : Lang A} {M M' : Lang B} {p p' : Parser A} {q q' : Parser B} {s u : Shape} (k : Kind) (f : A → B) → Tied b X X' p p' s → Tied true M M' q q' u → subset ((k ∷ []) ++ []) (k ∷ []) ≡ true → disjoint u.first (k ∷ []) ≡ true
    → Tied true (Alt (Enter b (k ∷ []) f X) M) (Alt (Enter true (k ∷ []) f X') M') (alt (k ∷ []) (enter b (k ∷ []) f p) q) (alt (k ∷ []) (enter true (k ∷ []) f p') q') (alt_shape (k ∷ []) (after_shape (k ∷ []) s) u)
tied_enter {b = b} {X = X} {X' = X'} {M = M} {M' = M'} {p = p} {p' = p'} {q = q} {q' = q'} {s = s} {u = u} k f T U itself clear = enter_tied X X' M M' p p' q q' s u k f U itself clear b T

-- ---- the same parser in other words, and nothing or a sentence in front of another

pub tied_like : {A : Type 0} {b : Bool} {L M : Lang A} {p p' q q' : Parser A} {s : Shape} → ((ts : Tokens) → p ts ≡ p' ts) → ((ts : Tokens) → q ts ≡ q' ts) → Tied b L M p q s → Tied b L M p' q' s
tied_like {b = b} {L = L} {M = M} {p = p} {p' = p'} {q = q} {q' = q'} {s = s} h g T =
    subst (λ q. Tied b L M p' q s) (fun_ext g) (subst (λ p. Tied b L M p q s) (fun_ext h) T)

module _ {A B : Type 0} (none : A) (L : Lang A) (M : Lang B) where
  first_or_both : Same (Alt (Map (λ b. (none, b)) M) (Seq L M)) (Seq (Opt none L) M)
  first_or_both = record { to = to; of = of }
    where
      to : (ts : Tokens) (p : A × B) → Alt (Map (λ b. (none, b)) M) (Seq L M) ts p → Seq (Opt none L) M ts p
      to ts p (inl m) = ([], ts, refl, inr (refl, ap (λ p. p.0) m.2), subst (λ b. M ts b) (ap (λ p. p.1) m.2) m.1)
      to ts p (inr l) = (l.0, l.1, l.2, inl l.3, l.4)

      with_first : (ts f g : Tokens) (p : A × B) → ts ≡ f ++ g → Opt none L f p.0 → M g p.1 → Alt (Map (λ b. (none, b)) M) (Seq L M) ts p
      with_first ts f g p e (inl l) m = inr (f, g, e, l, m)
      with_first ts f g p e (inr n) m =
          let here : g ≡ ts = sym (e ∙ ap (λ f. f ++ g) n.0) in
          inl (p.1, subst (λ ts. M ts p.1) here m, ap (λ a. (a, p.1)) n.1)

      of : (ts : Tokens) (p : A × B) → Seq (Opt none L) M ts p → Alt (Map (λ b. (none, b)) M) (Seq L M) ts p
      of ts p l = with_first ts l.0 l.1 p l.2 l.3 l.4

then_choice : {A B : Type 0} (b : Bool) (x y : Outcome A) (f : A → Parser B) → cond b (and_then x f) (and_then y f) ≡ and_then (cond b x y) f
then_choice true x y f = refl
then_choice false x y f = refl

unless_is : {A B : Type 0} (kinds : List Kind) (none : A) (p : Parser A) (q : Parser B) (ts : Tokens) → alt kinds (map_out (λ b. (none, b)) q) (seq p q) ts ≡ seq (unless kinds none p) q ts
unless_is kinds none p q ts = then_choice (heads kinds ts) (Done none ts) (p ts) (λ a rest. and_then (q rest) (λ b rest. Done (a, b) rest))

pub tied_unless : {A B : Type 0} {b : Bool} {L L' : Lang A} {M M' : Lang B} {p p' : Parser A} {q q' : Parser B} {s u : Shape} (kinds : List Kind) (none : A) → Tied b L L' p p' s → Tied b M M' q q' u → disjoint u.first s.more ≡ true → u.empty ≡ false → subset u.first kinds ≡ true → disjoint (seq_shape s u).first kinds ≡ true
    → Tied b (Seq (Opt none L) M) (Seq (Opt none L') M') (seq (unless kinds none p) q) (seq (unless kinds none p') q') (alt_shape kinds u (seq_shape s u))
tied_unless {L = L} {L' = L'} {M = M} {M' = M'} {p = p} {p' = p'} {q = q} {q' = q'} kinds none T U clear full known apart =
    tied_like (unless_is kinds none p q) (unless_is kinds none p' q')
    (tied_same (first_or_both none L M) (first_or_both none L' M') (tied_alt kinds (tied_map (λ b. (none, b)) U) (tied_seq T U clear) full known apart))
