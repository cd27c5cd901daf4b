-- Printed edges and patterns are read as these edges and patterns.
use Rattle.std.proofs.Common.{◌≡◌, inl, inr, ℕ, true, false, Bool, List, [], ◌∷◌, ◌++◌, codes, Option, refl, sym, ap, subst, ◌∙◌, append_assoc}
use Rattle.std.specs.List.{flat_map}
use Rattle.cypher_syntax.specs.declared.tree.expr.Expr.{Expr}
use Rattle.cypher_syntax.specs.declared.tree.pattern.Arrow.{Arrow}
use Rattle.cypher_syntax.specs.declared.tree.pattern.Arrow.TheVariants as arrow
use Rattle.cypher_syntax.specs.declared.tree.pattern.EdgePattern.{EdgePattern}
use Rattle.cypher_syntax.specs.declared.tree.pattern.NodePattern.{NodePattern}
use Rattle.cypher_syntax.specs.declared.tree.pattern.Pattern.{Pattern}
use Rattle.cypher_parse.specs.declared.kind.Kind.TheVariants as k
use Rattle.cypher_parse.specs.Languages.{Lang, Seq, Map, After, Before, Opt, Many}
use Rattle.cypher_parse.specs.Expressions.{Schema, Flag}
use Rattle.cypher_parse.specs.Patterns.{Properties, Details, edge_of, right_or_neither, NameOrNone, Kinds, MapOrNone, Inner, Edge, Node, Path}
use Rattle.cypher_print.specs.Pieces.{Pieces, written, schema}
use Rattle.cypher_print.specs.QueryText.{optional_name, kinds, map_text, before_edge, behind_edge, edge, node, pattern}
use Rattle.cypher_print.specs.ReadBack.{parts_name, parts_sign}
use Rattle.cypher_print.specs.Sentences.{IsSentence, All, IsName, IsNameOrNone, IsMapOrNone, IsVertex, IsEdge, IsPattern}
use Rattle.cypher_print.proofs.Sentences.{no_token, in_turn, Passes}
use Rattle.cypher_print.proofs.Parts.{written-behind, written-both, bar, minus, left_bracket, right_bracket, less, greater, as_part, behind_token, before_token}
use Rattle.cypher_print.proofs.LabelsRead.{Label, one_label, schema_name}
use Rattle.cypher_print.proofs.VerticesRead.{name_or_none, map_or_none, parted_map, node_is, vertex}

-- ---- kinds

-- behind a bar, and with no colon
abbrev Other : Lang (List ℕ)
Other = After (k.Bar ∷ []) (Map (λ p. p.1) (Seq (Flag k.Colon) Schema))

abbrev bars : List (List ℕ) → Pieces
bars ks = flat_map (λ y. codes "|" ∷ schema y) ks

bars_first : (y : List ℕ) (ys : List (List ℕ)) → written [] (bars (y ∷ ys)) ≡ ((124 ∷ []) ++ written [] (schema y)) ++ written [] (bars ys)
bars_first y ys = written-both (codes "|" ∷ schema y) (bars ys) ∙ ap (λ zs. zs ++ written [] (bars ys)) (written-behind (124 ∷ []) (schema y))

parted_bars : (ys : List (List ℕ)) (behind : List ℕ) → parts_name behind ≡ true → parts_name (written [] (bars ys) ++ behind) ≡ true
parted_bars [] behind h = h
parted_bars (y ∷ ys) behind h = ap (λ zs. parts_name (zs ++ behind)) (bars_first y ys)

other : (y behind : List ℕ) → IsName y → parts_name behind ≡ true → IsSentence Other y ((124 ∷ []) ++ written [] (schema y)) behind
other y behind is parts =
    let W = written [] (schema y) in
    behind_token (k.Bar ∷ []) (Map (λ p. p.1) (Seq (Flag k.Colon) Schema)) y (124 ∷ []) W behind (bar (W ++ behind))
    (as_part Schema (Map (λ p. p.1) (Seq (Flag k.Colon) Schema)) y y (λ ts u. ((false, y), ([], ts, refl, inr (refl, refl), u), refl)) W behind (schema_name y behind is parts))

others : (ys : List (List ℕ)) (behind : List ℕ) → All IsName ys → parts_name behind ≡ true → IsSentence (Many Other) ys (written [] (bars ys)) behind
others [] behind are parts = no_token (Many Other) [] behind refl
others (y ∷ ys) behind are parts =
    let P : List ℕ → Type 0 = λ bytes. IsSentence (Many Other) (y ∷ ys) bytes behind in
    subst P (sym (bars_first y ys))
    (in_turn Other (Many Other) (Many Other) y ys (y ∷ ys) (λ ts us u v. (ts, us, refl, u, v))
    ((124 ∷ []) ++ written [] (schema y)) (written [] (bars ys)) behind
    (other y (written [] (bars ys) ++ behind) are.0 (parted_bars ys behind parts)) (others ys behind are.1 parts))

kinds_first : (y : List ℕ) (ys : List (List ℕ)) → written [] (kinds (y ∷ ys)) ≡ ((58 ∷ []) ++ written [] (schema y)) ++ written [] (bars ys)
kinds_first y ys = written-behind (58 ∷ []) (schema y ++ bars ys) ∙ ap (λ zs. (58 ∷ []) ++ zs) (written-both (schema y) (bars ys))

kinds_read : (ys : List (List ℕ)) (behind : List ℕ) → All IsName ys → parts_name behind ≡ true → IsSentence (Opt [] Kinds) ys (written [] (kinds ys)) behind
kinds_read [] behind are parts = no_token (Opt [] Kinds) [] behind (inr (refl, refl))
kinds_read (y ∷ ys) behind are parts =
    let P : List ℕ → Type 0 = λ bytes. IsSentence (Opt [] Kinds) (y ∷ ys) bytes behind in
    subst P (sym (kinds_first y ys))
    (in_turn Label (Many Other) (Opt [] Kinds) y ys (y ∷ ys) (λ ts us u v. inl ((y, ys), (ts, us, refl, u, v), refl))
    ((58 ∷ []) ++ written [] (schema y)) (written [] (bars ys)) behind
    (one_label y (written [] (bars ys) ++ behind) are.0 (parted_bars ys behind parts)) (others ys behind are.1 parts))

parted_kinds : (ys : List (List ℕ)) (behind : List ℕ) → parts_name behind ≡ true → parts_name (written [] (kinds ys) ++ behind) ≡ true
parted_kinds [] behind h = h
parted_kinds (y ∷ ys) behind h = ap (λ zs. parts_name (zs ++ behind)) (kinds_first y ys)

-- ---- edges

module _ (E : Lang Expr) where
  abbrev pub body : Option (List ℕ) → List (List ℕ) → Properties → List ℕ
  body o ys m = written [] (optional_name o) ++ (written [] (kinds ys) ++ written [] (map_text m))

  pub edge_is : (front back : List ℕ) (o : Option (List ℕ)) (ys : List (List ℕ)) (m : Properties)
      → written [] ((front ∷ optional_name o) ++ kinds ys ++ map_text m ++ back ∷ []) ≡ front ++ (body o ys m ++ back)
  edge_is front back o ys m =
      let N = written [] (optional_name o) in
      let K = written [] (kinds ys) in
      let M = written [] (map_text m) in
      let all = front ∷ optional_name o in
      written-both (all ++ kinds ys ++ map_text m) (back ∷ [])
      ∙ ap (λ zs. zs ++ back) (written-both (all ++ kinds ys) (map_text m) ∙ ap (λ zs. zs ++ M) (written-both all (kinds ys)))
      ∙ ap (λ zs. ((zs ++ K) ++ M) ++ back) (written-behind front (optional_name o))
      ∙ ap (λ zs. (zs ++ M) ++ back) (append_assoc front N K)
      ∙ ap (λ zs. zs ++ back) (append_assoc front (N ++ K) M ∙ ap (λ zs. front ++ zs) (append_assoc N K M))
      ∙ append_assoc front (body o ys m) back

  abbrev Parts : Lang Details
  Parts = Seq NameOrNone (Seq (Opt [] Kinds) (MapOrNone E))

  details : (o : Option (List ℕ)) (ys : List (List ℕ)) (m : Properties) (behind : List ℕ) → IsNameOrNone o → All IsName ys → IsMapOrNone E m → parts_name behind ≡ true
      → IsSentence Parts (o, (ys, m)) (body o ys m) behind
  details o ys m behind is are map_is parts =
      let K = written [] (kinds ys) in
      let M = written [] (map_text m) in
      let map_parts = parted_map E m behind parts in
      let kind_parts : parts_name ((K ++ M) ++ behind) ≡ true = ap parts_name (append_assoc K M behind) ∙ parted_kinds ys (M ++ behind) map_parts in
      in_turn NameOrNone (Seq (Opt [] Kinds) (MapOrNone E)) Parts o (ys, m) (o, (ys, m)) (λ ts us u v. (ts, us, refl, u, v))
      (written [] (optional_name o)) (K ++ M) behind
      (name_or_none o ((K ++ M) ++ behind) is kind_parts)
      (in_turn (Opt [] Kinds) (MapOrNone E) (Seq (Opt [] Kinds) (MapOrNone E)) ys m (ys, m) (λ ts us u v. (ts, us, refl, u, v)) K M behind
      (kinds_read ys (M ++ behind) are map_parts) (map_or_none E m behind map_is))

  abbrev pub between : Option (List ℕ) → List (List ℕ) → Properties → List ℕ
  between o ys m = ((91 ∷ []) ++ (body o ys m ++ (93 ∷ []))) ++ (45 ∷ [])

  inner : (o : Option (List ℕ)) (ys : List (List ℕ)) (m : Properties) (behind : List ℕ) → IsNameOrNone o → All IsName ys → IsMapOrNone E m
      → IsSentence (Before (Inner E) (k.Minus ∷ [])) (o, (ys, m)) (between o ys m) behind
  unfolding Inner
  inner o ys m behind is are map_is =
      let D = body o ys m in
      let B : Lang Details = After (k.LeftBracket ∷ []) (Before Parts (k.RightBracket ∷ [])) in
      let dashed = (45 ∷ []) ++ behind in
      before_token (Inner E) (k.Minus ∷ []) (o, (ys, m)) ((91 ∷ []) ++ (D ++ (93 ∷ []))) (45 ∷ []) behind
      (as_part B (Inner E) (o, (ys, m)) (o, (ys, m)) (λ ts u. inl u) ((91 ∷ []) ++ (D ++ (93 ∷ []))) dashed
      (behind_token (k.LeftBracket ∷ []) (Before Parts (k.RightBracket ∷ [])) (o, (ys, m)) (91 ∷ []) (D ++ (93 ∷ [])) dashed (left_bracket ((D ++ (93 ∷ [])) ++ dashed))
      (before_token Parts (k.RightBracket ∷ []) (o, (ys, m)) D (93 ∷ []) dashed (details o ys m ((93 ∷ []) ++ dashed) is are map_is refl) (right_bracket dashed))))
      (minus behind)

  no_greater : (behind : List ℕ) → IsSentence (Flag k.Greater) false [] behind
  no_greater behind = no_token (Flag k.Greater) false behind (inr (refl, refl))

  pub a_greater : (behind : List ℕ) → parts_sign 62 behind ≡ true → IsSentence (Flag k.Greater) true (62 ∷ []) behind
  a_greater behind parts = as_part (Passes (k.Greater ∷ [])) (Flag k.Greater) tt true (λ ts u. inl (u.0, (u.1, u.2), refl)) (62 ∷ []) behind (greater behind parts)

  -- with a dash in front
  forward : (o : Option (List ℕ)) (ys : List (List ℕ)) (m : Properties) (flag : Bool) (tail behind : List ℕ) → IsNameOrNone o → All IsName ys → IsMapOrNone E m
      → IsSentence (Flag k.Greater) flag tail behind
      → IsSentence (Edge E) (right_or_neither ((o, (ys, m)), flag)) ((45 ∷ []) ++ (between o ys m ++ tail)) behind
  unfolding Edge
  forward o ys m flag tail behind is are map_is last =
      let L : Lang (Details × Bool) = Seq (Before (Inner E) (k.Minus ∷ [])) (Flag k.Greater) in
      let d : Details × Bool = ((o, (ys, m)), flag) in
      as_part (After (k.Minus ∷ []) L) (Edge E) d (right_or_neither d) (λ ts u. inr (d, u, refl)) ((45 ∷ []) ++ (between o ys m ++ tail)) behind
      (behind_token (k.Minus ∷ []) L d (45 ∷ []) (between o ys m ++ tail) behind (minus ((between o ys m ++ tail) ++ behind))
      (in_turn (Before (Inner E) (k.Minus ∷ [])) (Flag k.Greater) L (o, (ys, m)) flag d (λ ts us u v. (ts, us, refl, u, v)) (between o ys m) tail behind
      (inner o ys m (tail ++ behind) is are map_is) last))

  backward : (o : Option (List ℕ)) (ys : List (List ℕ)) (m : Properties) (behind : List ℕ) → IsNameOrNone o → All IsName ys → IsMapOrNone E m
      → IsSentence (Edge E) (edge_of arrow.Left (o, (ys, m))) ((60 ∷ []) ++ ((45 ∷ []) ++ between o ys m)) behind
  unfolding Edge
  backward o ys m behind is are map_is =
      let d : Details = (o, (ys, m)) in
      let L : Lang Details = Before (Inner E) (k.Minus ∷ []) in
      as_part (After (k.Less ∷ []) (After (k.Minus ∷ []) L)) (Edge E) d (edge_of arrow.Left d) (λ ts u. inl (d, u, refl)) ((60 ∷ []) ++ ((45 ∷ []) ++ between o ys m)) behind
      (behind_token (k.Less ∷ []) (After (k.Minus ∷ []) L) d (60 ∷ []) ((45 ∷ []) ++ between o ys m) behind (less (((45 ∷ []) ++ between o ys m) ++ behind) refl)
      (behind_token (k.Minus ∷ []) L d (45 ∷ []) (between o ys m) behind (minus (between o ys m ++ behind)) (inner o ys m behind is are map_is)))

  -- the parts between brackets, regrouped
  pub regrouped : (D tail : List ℕ) → 45 ∷ 91 ∷ (D ++ (93 ∷ 45 ∷ tail)) ≡ 45 ∷ ((91 ∷ ((D ++ (93 ∷ [])) ++ (45 ∷ []))) ++ tail)
  regrouped D tail = ap (λ (zs : List ℕ). 45 ∷ 91 ∷ zs) (sym (append_assoc (D ++ (93 ∷ [])) (45 ∷ []) tail ∙ append_assoc D (93 ∷ []) ((45 ∷ []) ++ tail)))

  by_arrow : (o : Option (List ℕ)) (ys : List (List ℕ)) (m : Properties) (a : Arrow) (behind : List ℕ) → IsNameOrNone o → All IsName ys → IsMapOrNone E m → parts_sign 62 behind ≡ true
      → IsSentence (Edge E) (edge_of a (o, (ys, m))) (before_edge a ++ (body o ys m ++ behind_edge a)) behind
  by_arrow o ys m arrow.Right behind is are map_is parts =
      let P : List ℕ → Type 0 = λ bytes. IsSentence (Edge E) (edge_of arrow.Right (o, (ys, m))) bytes behind in
      subst P (sym (regrouped (body o ys m) (62 ∷ []))) (forward o ys m true (62 ∷ []) behind is are map_is (a_greater behind parts))
  by_arrow o ys m arrow.Neither behind is are map_is parts =
      let P : List ℕ → Type 0 = λ bytes. IsSentence (Edge E) (edge_of arrow.Neither (o, (ys, m))) bytes behind in
      subst P (sym (regrouped (body o ys m) [])) (forward o ys m false [] behind is are map_is (no_greater behind))
  by_arrow o ys m arrow.Left behind is are map_is parts =
      let P : List ℕ → Type 0 = λ bytes. IsSentence (Edge E) (edge_of arrow.Left (o, (ys, m))) bytes behind in
      let D = body o ys m in
      subst P (ap (λ (zs : List ℕ). 60 ∷ 45 ∷ 91 ∷ zs) (append_assoc D (93 ∷ []) (45 ∷ []))) (backward o ys m behind is are map_is)

  edge_read : (e : EdgePattern) (behind : List ℕ) → IsEdge E e → parts_sign 62 behind ≡ true → IsSentence (Edge E) e (written [] (edge e)) behind
  edge_read e behind is parts =
      let P : List ℕ → Type 0 = λ bytes. IsSentence (Edge E) e bytes behind in
      subst P (sym (edge_is (before_edge e.arrow) (behind_edge e.arrow) e.name e.kinds e.map)) (by_arrow e.name e.kinds e.map e.arrow behind is.0 is.1 is.2 parts)

  -- ---- patterns

  abbrev Steps : Lang (EdgePattern × NodePattern)
  Steps = Seq (Edge E) (Node E)

  abbrev steps_text : List (EdgePattern × NodePattern) → Pieces
  steps_text ss = flat_map (λ s. edge s.0 ++ node s.1) ss

  steps_read : (ss : List (EdgePattern × NodePattern)) (behind : List ℕ) → All (λ s. IsEdge E s.0 × IsVertex E s.1) ss → IsSentence (Many Steps) ss (written [] (steps_text ss)) behind
  steps_read [] behind are = no_token (Many Steps) [] behind refl
  steps_read (s ∷ ss) behind are =
      let P : List ℕ → Type 0 = λ bytes. IsSentence (Many Steps) (s ∷ ss) bytes behind in
      let A = written [] (edge s.0) in
      let V = written [] (node s.1) in
      let rest = written [] (steps_text ss) in
      let here : parts_sign 62 (V ++ (rest ++ behind)) ≡ true = ap (λ zs. parts_sign 62 (zs ++ (rest ++ behind))) (node_is E s.1) in
      subst P (sym (written-both (edge s.0 ++ node s.1) (steps_text ss) ∙ ap (λ zs. zs ++ rest) (written-both (edge s.0) (node s.1))))
      (in_turn Steps (Many Steps) (Many Steps) s ss (s ∷ ss) (λ ts us u v. (ts, us, refl, u, v)) (A ++ V) rest behind
      (in_turn (Edge E) (Node E) Steps s.0 s.1 s (λ ts us u v. (ts, us, refl, u, v)) A V (rest ++ behind) (edge_read s.0 (V ++ (rest ++ behind)) are.0.0 here) (vertex E s.1 (rest ++ behind) are.0.1))
      (steps_read ss behind are.1))

  pub pattern_read : (p : Pattern) (behind : List ℕ) → IsPattern E p → IsSentence (Path E) p (written [] (pattern p)) behind
  unfolding Path
  pattern_read p behind is =
      let P : List ℕ → Type 0 = λ bytes. IsSentence (Path E) p bytes behind in
      let rest = written [] (steps_text p.steps) in
      subst P (sym (written-both (node p.first) (steps_text p.steps)))
      (in_turn (Node E) (Many Steps) (Path E) p.first p.steps p (λ ts us u v. ((p.first, p.steps), (ts, us, refl, u, v), refl)) (written [] (node p.first)) rest behind
      (vertex E p.first (rest ++ behind) is.0) (steps_read p.steps behind is.1))
