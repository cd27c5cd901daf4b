-- Printed edges and patterns of CREATE are read as these edges and patterns.
use Rattle.std.proofs.Common.{◌≡◌, inl, inr, ℕ, true, List, [], ◌∷◌, ◌++◌, Option, refl, sym, ap, subst, ◌∙◌, append_assoc, append-nil}
use Rattle.std.specs.List.{flat_map}
use Rattle.cypher_syntax.specs.declared.tree.expr.Expr.{Expr}
use Rattle.cypher_syntax.specs.declared.tree.pattern.Arrow.{Arrow}
use Rattle.cypher_syntax.specs.declared.tree.pattern.Arrow.TheVariants as arrow
use Rattle.cypher_syntax.specs.declared.tree.pattern.EdgePattern.{EdgePattern}
use Rattle.cypher_syntax.specs.declared.tree.pattern.NodePattern.{NodePattern}
use Rattle.cypher_syntax.specs.declared.tree.pattern.Pattern.{Pattern}
use Rattle.cypher_parse.specs.declared.kind.Kind.TheVariants as k
use Rattle.cypher_parse.specs.Languages.{Lang, Seq, Map, After, Before, Many}
use Rattle.cypher_parse.specs.Patterns.{Properties, Details, edge_of, NameOrNone, MapOrNone, NewInner, NewEdge, Node, NewPath}
use Rattle.cypher_print.specs.Pieces.{Pieces, written, schema}
use Rattle.cypher_print.specs.QueryText.{optional_name, kinds, map_text, before_edge, behind_edge, edge, node, pattern}
use Rattle.cypher_print.specs.ReadBack.{parts_name, parts_sign}
use Rattle.cypher_print.specs.Sentences.{IsSentence, All, IsName, IsNameOrNone, IsMapOrNone, IsVertex}
use Rattle.cypher_print.specs.QuerySentences.{IsOneKind, IsDirected, IsNewEdge, IsNewPattern}
use Rattle.cypher_print.proofs.Sentences.{no_token, in_turn}
use Rattle.cypher_print.proofs.Parts.{written-behind, written-both, minus, left_bracket, right_bracket, less, greater, as_part, behind_token, before_token}
use Rattle.cypher_print.proofs.LabelsRead.{Label, one_label}
use Rattle.cypher_print.proofs.VerticesRead.{name_or_none, map_or_none, parted_map, node_is, vertex}
use Rattle.cypher_print.proofs.EdgesRead.{body, between, edge_is, regrouped}

-- ---- the kind

abbrev OneKind : Lang (List (List ℕ))
OneKind = Map (λ kind. kind ∷ []) Label

kind_is : (y : List ℕ) → written [] (kinds (y ∷ [])) ≡ (58 ∷ []) ++ written [] (schema y)
kind_is y = written-behind (58 ∷ []) (schema y ++ []) ∙ ap (λ ys. (58 ∷ []) ++ written [] ys) (append-nil (schema y))

one_kind : (y behind : List ℕ) → IsName y → parts_name behind ≡ true → IsSentence OneKind (y ∷ []) (written [] (kinds (y ∷ []))) behind
one_kind y behind is parts =
    let P : List ℕ → Type 0 = λ bytes. IsSentence OneKind (y ∷ []) bytes behind in
    subst P (sym (kind_is y))
    (as_part Label OneKind y (y ∷ []) (λ ts u. (y, u, refl)) ((58 ∷ []) ++ written [] (schema y)) behind (one_label y behind is parts))

parted_kind : (y behind : List ℕ) → parts_name (written [] (kinds (y ∷ [])) ++ behind) ≡ true
parted_kind y behind = ap (λ zs. parts_name (zs ++ behind)) (kind_is y)

-- ---- edges

module _ (E : Lang Expr) where
  abbrev Parts : Lang Details
  Parts = Seq NameOrNone (Seq OneKind (MapOrNone E))

  details : (o : Option (List ℕ)) (y : List ℕ) (m : Properties) (behind : List ℕ) → IsNameOrNone o → IsName y → IsMapOrNone E m → parts_name behind ≡ true
      → IsSentence Parts (o, (y ∷ [], m)) (body E o (y ∷ []) m) behind
  details o y m behind is named map_is parts =
      let K = written [] (kinds (y ∷ [])) in
      let M = written [] (map_text m) in
      let kind_parts : parts_name ((K ++ M) ++ behind) ≡ true = ap parts_name (append_assoc K M behind) ∙ parted_kind y (M ++ behind) in
      in_turn NameOrNone (Seq OneKind (MapOrNone E)) Parts o (y ∷ [], m) (o, (y ∷ [], m)) (λ ts us u v. (ts, us, refl, u, v))
      (written [] (optional_name o)) (K ++ M) behind
      (name_or_none o ((K ++ M) ++ behind) is kind_parts)
      (in_turn OneKind (MapOrNone E) (Seq OneKind (MapOrNone E)) (y ∷ []) m (y ∷ [], m) (λ ts us u v. (ts, us, refl, u, v)) K M behind
      (one_kind y (M ++ behind) named (parted_map E m behind parts)) (map_or_none E m behind map_is))

  inner : (o : Option (List ℕ)) (y : List ℕ) (m : Properties) (behind : List ℕ) → IsNameOrNone o → IsName y → IsMapOrNone E m
      → IsSentence (Before (NewInner E) (k.Minus ∷ [])) (o, (y ∷ [], m)) (between E o (y ∷ []) m) behind
  unfolding NewInner
  inner o y m behind is named map_is =
      let D = body E o (y ∷ []) m in
      let d : Details = (o, (y ∷ [], m)) in
      let dashed = (45 ∷ []) ++ behind in
      before_token (NewInner E) (k.Minus ∷ []) d ((91 ∷ []) ++ (D ++ (93 ∷ []))) (45 ∷ []) behind
      (behind_token (k.LeftBracket ∷ []) (Before Parts (k.RightBracket ∷ [])) d (91 ∷ []) (D ++ (93 ∷ [])) dashed (left_bracket ((D ++ (93 ∷ [])) ++ dashed))
      (before_token Parts (k.RightBracket ∷ []) d D (93 ∷ []) dashed (details o y m ((93 ∷ []) ++ dashed) is named map_is refl) (right_bracket dashed)))
      (minus behind)

  by_arrow : (o : Option (List ℕ)) (y : List ℕ) (m : Properties) (a : Arrow) (behind : List ℕ) → IsNameOrNone o → IsName y → IsMapOrNone E m → IsDirected a → parts_sign 62 behind ≡ true
      → IsSentence (NewEdge E) (edge_of a (o, (y ∷ [], m))) (before_edge a ++ (body E o (y ∷ []) m ++ behind_edge a)) behind
  unfolding NewEdge
  by_arrow o y m arrow.Right behind is named map_is to parts =
      let d : Details = (o, (y ∷ [], m)) in
      let L : Lang Details = Before (NewInner E) (k.Minus ∷ []) in
      let R : Lang Details = Before L (k.Greater ∷ []) in
      let B = between E o (y ∷ []) m in
      let P : List ℕ → Type 0 = λ bytes. IsSentence (NewEdge E) (edge_of arrow.Right d) bytes behind in
      subst P (sym (regrouped E (body E o (y ∷ []) m) (62 ∷ [])))
      (as_part (After (k.Minus ∷ []) R) (NewEdge E) d (edge_of arrow.Right d) (λ ts u. inr (d, u, refl)) ((45 ∷ []) ++ (B ++ (62 ∷ []))) behind
      (behind_token (k.Minus ∷ []) R d (45 ∷ []) (B ++ (62 ∷ [])) behind (minus ((B ++ (62 ∷ [])) ++ behind))
      (before_token L (k.Greater ∷ []) d B (62 ∷ []) behind (inner o y m ((62 ∷ []) ++ behind) is named map_is) (greater behind parts))))
  by_arrow o y m arrow.Left behind is named map_is to parts =
      let d : Details = (o, (y ∷ [], m)) in
      let L : Lang Details = Before (NewInner E) (k.Minus ∷ []) in
      let B = between E o (y ∷ []) m in
      let D = body E o (y ∷ []) m in
      let P : List ℕ → Type 0 = λ bytes. IsSentence (NewEdge E) (edge_of arrow.Left d) bytes behind in
      subst P (ap (λ (zs : List ℕ). 60 ∷ 45 ∷ 91 ∷ zs) (append_assoc D (93 ∷ []) (45 ∷ [])))
      (as_part (After (k.Less ∷ []) (After (k.Minus ∷ []) L)) (NewEdge E) d (edge_of arrow.Left d) (λ ts u. inl (d, u, refl)) ((60 ∷ []) ++ ((45 ∷ []) ++ B)) behind
      (behind_token (k.Less ∷ []) (After (k.Minus ∷ []) L) d (60 ∷ []) ((45 ∷ []) ++ B) behind (less (((45 ∷ []) ++ B) ++ behind) refl)
      (behind_token (k.Minus ∷ []) L d (45 ∷ []) B behind (minus (B ++ behind)) (inner o y m behind is named map_is))))
  by_arrow o y m arrow.Neither behind is named map_is to parts = absurd to

  by_kinds : (o : Option (List ℕ)) (ys : List (List ℕ)) (m : Properties) (a : Arrow) (behind : List ℕ) → IsNameOrNone o → IsOneKind ys → IsMapOrNone E m → IsDirected a → parts_sign 62 behind ≡ true
      → IsSentence (NewEdge E) (edge_of a (o, (ys, m))) (before_edge a ++ (body E o ys m ++ behind_edge a)) behind
  by_kinds o [] m a behind is one map_is to parts = absurd one
  by_kinds o (y ∷ []) m a behind is one map_is to parts = by_arrow o y m a behind is one map_is to parts
  by_kinds o (y ∷ z ∷ ys) m a behind is one map_is to parts = absurd one

  new_edge : (e : EdgePattern) (behind : List ℕ) → IsNewEdge E e → parts_sign 62 behind ≡ true → IsSentence (NewEdge E) e (written [] (edge e)) behind
  new_edge e behind is parts =
      let P : List ℕ → Type 0 = λ bytes. IsSentence (NewEdge E) e bytes behind in
      subst P (sym (edge_is E (before_edge e.arrow) (behind_edge e.arrow) e.name e.kinds e.map)) (by_kinds e.name e.kinds e.map e.arrow behind is.0 is.1 is.3 is.2 parts)

  -- ---- patterns

  abbrev Steps : Lang (EdgePattern × NodePattern)
  Steps = Seq (NewEdge E) (Node E)

  abbrev steps_text : List (EdgePattern × NodePattern) → Pieces
  steps_text ss = flat_map (λ s. edge s.0 ++ node s.1) ss

  steps_read : (ss : List (EdgePattern × NodePattern)) (behind : List ℕ) → All (λ s. IsNewEdge E s.0 × IsVertex E s.1) ss → IsSentence (Many Steps) ss (written [] (steps_text ss)) behind
  steps_read [] behind are = no_token (Many Steps) [] behind refl
  steps_read (s ∷ ss) behind are =
      let P : List ℕ → Type 0 = λ bytes. IsSentence (Many Steps) (s ∷ ss) bytes behind in
      let A = written [] (edge s.0) in
      let V = written [] (node s.1) in
      let rest = written [] (steps_text ss) in
      let here : parts_sign 62 (V ++ (rest ++ behind)) ≡ true = ap (λ zs. parts_sign 62 (zs ++ (rest ++ behind))) (node_is E s.1) in
      subst P (sym (written-both (edge s.0 ++ node s.1) (steps_text ss) ∙ ap (λ zs. zs ++ rest) (written-both (edge s.0) (node s.1))))
      (in_turn Steps (Many Steps) (Many Steps) s ss (s ∷ ss) (λ ts us u v. (ts, us, refl, u, v)) (A ++ V) rest behind
      (in_turn (NewEdge E) (Node E) Steps s.0 s.1 s (λ ts us u v. (ts, us, refl, u, v)) A V (rest ++ behind) (new_edge s.0 (V ++ (rest ++ behind)) are.0.0 here) (vertex E s.1 (rest ++ behind) are.0.1))
      (steps_read ss behind are.1))

  pub new_pattern : (p : Pattern) (behind : List ℕ) → IsNewPattern E p → IsSentence (NewPath E) p (written [] (pattern p)) behind
  unfolding NewPath
  new_pattern p behind is =
      let P : List ℕ → Type 0 = λ bytes. IsSentence (NewPath E) p bytes behind in
      let rest = written [] (steps_text p.steps) in
      subst P (sym (written-both (node p.first) (steps_text p.steps)))
      (in_turn (Node E) (Many Steps) (NewPath E) p.first p.steps p (λ ts us u v. ((p.first, p.steps), (ts, us, refl, u, v), refl)) (written [] (node p.first)) rest behind
      (vertex E p.first (rest ++ behind) is.0) (steps_read p.steps behind is.1))
