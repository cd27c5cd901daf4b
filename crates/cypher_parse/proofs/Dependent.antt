-- What follows may depend on what was read.
use Rattle.std.proofs.Common.{◌≡◌, inl, inr, Bool, true, ◌&&◌, cond, [], ◌∷◌, ◌++◌, refl, sym, ap, ◌∙◌, subst}
use Rattle.std.proofs.lemmas.List.{append_assoc}
use Rattle.cypher_parse.specs.Kinds.{disjoint}
use Rattle.cypher_parse.specs.Languages.{Tokens, Lang, Bind}
use Rattle.cypher_parse.specs.Parsers.{Done, Fault, Parser, and_then, heads, bind}
use Rattle.cypher_parse.proofs.Sets.{Stops, heads_apart, stops_left, stops_right, heads_left, heads_right, heads_front}
use Rattle.cypher_parse.proofs.Exact.{Shape, Exact, StartsWith, DoneOf, FaultOf, then_done, then_fault, seq_shape, cond_right, cond_heads, alike_part}
use Rattle.cypher_parse.proofs.Deeper.{Opens, Grows, then_deeper, grows}
use Rattle.cypher_parse.proofs.Tied.{Tied}

module _ {A B : Type 0} (L : Lang A) (M : A → Lang B) (p : Parser A) (q : A → Parser B) (s u : Shape) (E : Exact L p s) (F : (a : A) → Exact (M a) (q a) u) (clear : disjoint u.first s.more ≡ true) where
  follows : (a : A) (back : Tokens) (b : B) (rest : Tokens) → M a back b → Stops (seq_shape s u).more rest → Stops s.more (back ++ rest)
  follows a back b rest m h = elim ((F a).starts back b m) [
    | inl f ↦ heads_apart u.first s.more clear (back ++ rest) (heads_front u.first back rest f)
    | inr e ↦ subst (λ ts. Stops s.more (ts ++ rest)) (sym e.0) (cond_right u.empty s.more rest e.1 (stops_right u.more (cond u.empty s.more []) rest h))
  ]

  bind_done : (ts : Tokens) (b : B) (rest : Tokens) → bind p q ts ≡ Done b rest → DoneOf (Bind L M) (bind p q) ts b rest
  bind_done ts b rest h =
      let x = then_done (p ts) q b rest h in
      let f = E.done ts x.0 x.1 x.2 in
      let g = (F x.0).done x.1 b rest x.3 in (
        f.0 ++ g.0,
        f.1 ∙ ap (λ mid. f.0 ++ mid) g.1 ∙ sym (append_assoc f.0 g.0 rest),
        (x.0, f.0, g.0, refl, f.2, g.2),
        λ other e. ap (bind p q) (append_assoc f.0 g.0 other) ∙ ap (λ o. and_then o q) (f.3 (g.0 ++ other) (alike_part x.1 g.0 rest other g.1 e)) ∙ g.3 other e,
      )

  bind_all : (front : Tokens) (b : B) (rest : Tokens) → Bind L M front b → Stops (seq_shape s u).more rest → bind p q (front ++ rest) ≡ Done b rest
  bind_all front b rest l h =
      ap (λ ts. bind p q (ts ++ rest)) l.3 ∙ ap (bind p q) (append_assoc l.1 l.2 rest)
      ∙ ap (λ o. and_then o q) (E.all l.1 l.0 (l.2 ++ rest) l.4 (follows l.0 l.2 b rest l.5 h)) ∙ (F l.0).all l.2 b rest l.5 (stops_left u.more (cond u.empty s.more []) rest h)

  bind_fault : (ts : Tokens) (k : Bool) (rest : Tokens) → bind p q ts ≡ Fault k rest → FaultOf (Bind L M) (bind p q) ts k rest
  bind_fault ts k rest h = elim (then_fault (p ts) q k rest h) [
    | inl e ↦ (
        let f = E.fault ts k rest e in
        let b = f.2 in
        let m = (F b.1).some in
        (f.0, f.1, (b.0 ++ m.0, m.1, (b.1, f.0 ++ b.0, m.0, sym (append_assoc f.0 b.0 m.0), b.2, m.2)), λ other e. ap (λ o. and_then o q) (f.3 other e)))
    | inr x ↦ (
        let f = E.done ts x.0 x.1 x.2 in
        let b = (F x.0).fault x.1 k rest x.3 in
        let s = b.2 in (
          f.0 ++ b.0,
          f.1 ∙ ap (λ mid. f.0 ++ mid) b.1 ∙ sym (append_assoc f.0 b.0 rest),
          (s.0, s.1, (x.0, f.0, b.0 ++ s.0, append_assoc f.0 b.0 s.0, f.2, s.2)),
          λ other e. ap (bind p q) (append_assoc f.0 b.0 other) ∙ ap (λ o. and_then o q) (f.3 (b.0 ++ other) (alike_part x.1 b.0 rest other b.1 e)) ∙ b.3 other e,
        ))
  ]

  bind_starts : (ts : Tokens) (b : B) → Bind L M ts b → StartsWith (seq_shape s u).first (seq_shape s u).empty ts
  bind_starts ts b l = elim (E.starts l.1 l.0 l.4) [
    | inl h ↦ inl (heads_left s.first (cond s.empty u.first []) ts (ap (heads s.first) l.3 ∙ heads_front s.first l.1 l.2 h))
    | inr e ↦ (let here : ts ≡ l.2 = l.3 ∙ ap (λ f. f ++ l.2) e.0 in
        elim ((F l.0).starts l.2 b l.5) [
          | inl h ↦ inl (heads_right s.first (cond s.empty u.first []) ts (cond_heads s.empty u.first ts e.1 (ap (heads u.first) here ∙ h)))
          | inr g ↦ inr (here ∙ g.0, ap (λ b. b && u.empty) e.1 ∙ g.1)
        ])
  ]

  exact_bind : Exact (Bind L M) (bind p q) (seq_shape s u)
  exact_bind = let a = E.some in let m = (F a.1).some in record {
    done = bind_done;
    all = bind_all;
    fault = bind_fault;
    some = (a.0 ++ m.0, m.1, (a.1, a.0, m.0, refl, a.2, m.2));
    starts = bind_starts;
  }

module _ {A B : Type 0} (L L' : Lang A) (M' : A → Lang B) (p : Parser A) (q : A → Parser B) (s : Shape) (E : Exact L p s) (wider : Grows L L') (O : Opens L' p) (some : (a : A) → (ts : Tokens) × (b : B) × M' a ts b) (P : (a : A) → Opens (M' a) (q a)) where
  bind_opens : Opens (Bind L' M') (bind p q)
  bind_opens ts rest h = elim (then_fault (p ts) q true rest h) [
    | inl e ↦ (
        let o = O ts rest e in
        let b = o.5 in
        let m = some b.1 in
        let front = o.0 ++ o.1 ∷ [] in
        (o.0, o.1, o.2, o.3, o.4, (b.0 ++ m.0, m.1, (b.1, front ++ b.0, m.0, sym (append_assoc front b.0 m.0), b.2, m.2))))
    | inr x ↦ (
        let d = E.done ts x.0 x.1 x.2 in
        let o = P x.0 x.1 rest x.3 in
        let b = o.5 in
        let t = o.1 in (
          d.0 ++ o.0,
          t,
          o.2,
          d.1 ∙ ap (λ mid. d.0 ++ mid) o.3 ∙ sym (append_assoc d.0 o.0 (t ∷ o.2)),
          o.4,
          (b.0, b.1, (x.0, d.0, o.0 ++ t ∷ [] ++ b.0, ap (λ ts. ts ++ b.0) (append_assoc d.0 o.0 (t ∷ [])) ∙ append_assoc d.0 (o.0 ++ t ∷ []) b.0, wider d.0 x.0 d.2, b.2)),
        ))
  ]

pub tied_bind : {A B : Type 0} {b : Bool} {L L' : Lang A} {M M' : A → Lang B} {p p' : Parser A} {q q' : A → Parser B} {s u : Shape} → Tied b L L' p p' s → ((a : A) → Tied b (M a) (M' a) (q a) (q' a) u) → disjoint u.first s.more ≡ true → Tied b (Bind L M) (Bind L' M') (bind p q) (bind p' q') (seq_shape s u)
tied_bind {L = L} {L' = L'} {M = M} {M' = M'} {p = p} {p' = p'} {q = q} {q' = q'} {s = s} {u = u} T U clear = record {
  high = exact_bind L' M' p' q' s u T.high (λ a. (U a).high) clear;
  low = λ h. exact_bind L M p q s u (T.low h) (λ a. (U a).low h) clear;
  deeper = λ h ts. then_deeper (p ts) (p' ts) q q' (T.deeper h ts) (λ a. (U a).deeper h);
  opens = λ h. bind_opens L L' M' p q s (T.low h) (grows L L' p p' s s (T.low h) T.high (T.deeper h)) (T.opens h) (λ a. (U a).high.some) (λ a. (U a).opens h);
}
