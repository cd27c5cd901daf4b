-- Printed vertices of patterns are read as these vertices.
use Rattle.std.proofs.Common.{◌≡◌, inl, inr, ℕ, true, List, [], ◌∷◌, ◌++◌, codes, Option, Some, None, refl, sym, ap, subst, ◌∙◌, append_assoc}
use Rattle.cypher_syntax.specs.declared.tree.expr.Expr.{Expr}
use Rattle.cypher_syntax.specs.declared.tree.pattern.NodePattern.{NodePattern}
use Rattle.cypher_parse.specs.declared.kind.Kind.TheVariants as k
use Rattle.cypher_parse.specs.Texts.{lexeme_of}
use Rattle.cypher_parse.specs.Languages.{Lang, Seq, After, Before, Opt, Listed}
use Rattle.cypher_parse.specs.Expressions.{Name, Schema}
use Rattle.cypher_parse.specs.Patterns.{Properties, Details, NameOrNone, LabelsOrNone, Entry, PropertyMap, MapOrNone, Node}
use Rattle.cypher_print.specs.Pieces.{written, name, schema}
use Rattle.cypher_print.specs.Printed.{joined, labels, expr}
use Rattle.cypher_print.specs.QueryText.{property, map_text, optional_name, node}
use Rattle.cypher_print.specs.ReadBack.{parts_name}
use Rattle.cypher_print.specs.Sentences.{IsSentence, All, IsName, IsNameOrNone, IsEntry, IsMapOrNone, IsVertex}
use Rattle.cypher_print.proofs.ReadBack.{names}
use Rattle.cypher_print.proofs.Sentences.{one_token, no_token, in_turn}
use Rattle.cypher_print.proofs.Parts.{written-behind, written-both, spaced, colon, left_paren, right_paren, left_brace, right_brace, as_part, behind_token, before_token, listed}
use Rattle.cypher_print.proofs.LabelsRead.{schema_name, parted, labels_read}

pub name_read : (n behind : List ℕ) → IsName n → parts_name behind ≡ true → IsSentence Name n (written [] (name n)) behind
name_read n behind some parts =
    let r = names n behind some parts in
    one_token Name n (written [] (name n)) behind (r.0, r.1, λ place. (lexeme_of r.0 (written [] (name n)) place, refl, (r.2 place).0, (r.2 place).1))

pub name_or_none : (o : Option (List ℕ)) (behind : List ℕ) → IsNameOrNone o → parts_name behind ≡ true → IsSentence NameOrNone o (written [] (optional_name o)) behind
name_or_none None behind is parts = no_token NameOrNone None behind (inr (refl, refl))
name_or_none (Some n) behind is parts = as_part Name NameOrNone n (Some n) (λ ts u. inl (n, u, refl)) (written [] (name n)) behind (name_read n behind is parts)

module _ (E : Lang Expr) where
  -- ---- maps

  property_is : (p : List ℕ × Expr) → written [] (property p) ≡ written [] (schema p.0) ++ ((58 ∷ []) ++ (32 ∷ written [] (expr p.1 0)))
  property_is p = written-both (schema p.0) (codes ": " ∷ expr p.1 0) ∙ ap (λ ys. written [] (schema p.0) ++ ys) (written-behind (58 ∷ 32 ∷ []) (expr p.1 0))

  entry : (p : List ℕ × Expr) → IsEntry E p → (behind : List ℕ) → parts_name behind ≡ true → IsSentence (Entry E) p (written [] (property p)) behind
  entry p is behind parts =
      let P : List ℕ → Type 0 = λ bytes. IsSentence (Entry E) p bytes behind in
      let x = written [] (expr p.1 0) in
      subst P (sym (property_is p))
      (in_turn Schema (After (k.Colon ∷ []) E) (Entry E) p.0 p.1 p (λ ts us u v. (ts, us, refl, u, v))
      (written [] (schema p.0)) ((58 ∷ []) ++ (32 ∷ x)) behind
      (schema_name p.0 (((58 ∷ []) ++ (32 ∷ x)) ++ behind) is.0 refl)
      (behind_token (k.Colon ∷ []) E p.1 (58 ∷ []) (32 ∷ x) behind (colon ((32 ∷ x) ++ behind)) (spaced E p.1 x behind (is.1 behind parts))))

  entries : (ps : List (List ℕ × Expr)) (behind : List ℕ) → All (IsEntry E) ps → parts_name behind ≡ true
      → IsSentence (Opt [] (Listed (k.Comma ∷ []) (Entry E))) ps (written [] (joined (codes ", ") property ps)) behind
  entries [] behind are parts = no_token (Opt [] (Listed (k.Comma ∷ []) (Entry E))) [] behind (inr (refl, refl))
  entries (p ∷ ps) behind are parts =
      as_part (Listed (k.Comma ∷ []) (Entry E)) (Opt [] (Listed (k.Comma ∷ []) (Entry E))) (p ∷ ps) (p ∷ ps) (λ ts u. inl u)
      (written [] (joined (codes ", ") property (p ∷ ps))) behind (listed (Entry E) property (IsEntry E) entry p ps behind are parts)

  map_is : (ps : List (List ℕ × Expr)) → written [] (map_text (Some ps)) ≡ (123 ∷ []) ++ (written [] (joined (codes ", ") property ps) ++ (125 ∷ []))
  map_is ps =
      written-behind (123 ∷ []) (joined (codes ", ") property ps ++ codes "}" ∷ [])
      ∙ ap (λ ys. (123 ∷ []) ++ ys) (written-both (joined (codes ", ") property ps) (codes "}" ∷ []))

  property_map : (ps : List (List ℕ × Expr)) (behind : List ℕ) → All (IsEntry E) ps → IsSentence (PropertyMap E) ps (written [] (map_text (Some ps))) behind
  unfolding PropertyMap
  property_map ps behind are =
      let P : List ℕ → Type 0 = λ bytes. IsSentence (PropertyMap E) ps bytes behind in
      let L : Lang (List (List ℕ × Expr)) = Opt [] (Listed (k.Comma ∷ []) (Entry E)) in
      let body = written [] (joined (codes ", ") property ps) in
      subst P (sym (map_is ps))
      (behind_token (k.LeftBrace ∷ []) (Before L (k.RightBrace ∷ [])) ps (123 ∷ []) (body ++ (125 ∷ [])) behind (left_brace ((body ++ (125 ∷ [])) ++ behind))
      (before_token L (k.RightBrace ∷ []) ps body (125 ∷ []) behind (entries ps ((125 ∷ []) ++ behind) are refl) (right_brace behind)))

  pub map_or_none : (o : Properties) (behind : List ℕ) → IsMapOrNone E o → IsSentence (MapOrNone E) o (written [] (map_text o)) behind
  map_or_none None behind is = no_token (MapOrNone E) None behind (inr (refl, refl))
  map_or_none (Some ps) behind is = as_part (PropertyMap E) (MapOrNone E) ps (Some ps) (λ ts u. inl (ps, u, refl)) (written [] (map_text (Some ps))) behind (property_map ps behind is)

  pub parted_map : (o : Properties) (behind : List ℕ) → parts_name behind ≡ true → parts_name (written [] (map_text o) ++ behind) ≡ true
  parted_map None behind h = h
  parted_map (Some ps) behind h = ap (λ ys. parts_name (ys ++ behind)) (map_is ps)

  -- ---- vertices

  pub node_is : (n : NodePattern) → written [] (node n)
      ≡ (40 ∷ []) ++ ((written [] (optional_name n.name) ++ (written [] (labels n.labels) ++ written [] (map_text n.map))) ++ (41 ∷ []))
  node_is n =
      let N = written [] (optional_name n.name) in
      let L = written [] (labels n.labels) in
      let M = written [] (map_text n.map) in
      let front = codes "(" ∷ optional_name n.name in
      written-both (front ++ labels n.labels ++ map_text n.map) (codes ")" ∷ [])
      ∙ ap (λ ys. ys ++ (41 ∷ [])) (written-both (front ++ labels n.labels) (map_text n.map) ∙ ap (λ ys. ys ++ M) (written-both front (labels n.labels)))
      ∙ ap (λ ys. ((ys ++ L) ++ M) ++ (41 ∷ [])) (written-behind (40 ∷ []) (optional_name n.name))
      ∙ ap (λ ys. (40 ∷ []) ++ (ys ++ (41 ∷ []))) (append_assoc N L M)

  details : (n : NodePattern) (behind : List ℕ) → IsVertex E n → parts_name behind ≡ true
      → IsSentence (Seq NameOrNone (Seq LabelsOrNone (MapOrNone E))) (n.name, (n.labels, n.map)) (written [] (optional_name n.name) ++ (written [] (labels n.labels) ++ written [] (map_text n.map))) behind
  details n behind is parts =
      let L = written [] (labels n.labels) in
      let M = written [] (map_text n.map) in
      let map_parts = parted_map n.map behind parts in
      let label_parts : parts_name ((L ++ M) ++ behind) ≡ true = ap parts_name (append_assoc L M behind) ∙ parted n.labels (M ++ behind) map_parts in
      in_turn NameOrNone (Seq LabelsOrNone (MapOrNone E)) (Seq NameOrNone (Seq LabelsOrNone (MapOrNone E))) n.name (n.labels, n.map) (n.name, (n.labels, n.map)) (λ ts us u v. (ts, us, refl, u, v))
      (written [] (optional_name n.name)) (L ++ M) behind
      (name_or_none n.name ((L ++ M) ++ behind) is.0 label_parts)
      (in_turn LabelsOrNone (MapOrNone E) (Seq LabelsOrNone (MapOrNone E)) n.labels n.map (n.labels, n.map) (λ ts us u v. (ts, us, refl, u, v)) L M behind
      (labels_read n.labels (M ++ behind) is.1 map_parts) (map_or_none n.map behind is.2))

  pub vertex : (n : NodePattern) (behind : List ℕ) → IsVertex E n → IsSentence (Node E) n (written [] (node n)) behind
  unfolding Node
  vertex n behind is =
      let P : List ℕ → Type 0 = λ bytes. IsSentence (Node E) n bytes behind in
      let D : Lang Details = Seq NameOrNone (Seq LabelsOrNone (MapOrNone E)) in
      let d : Details = (n.name, (n.labels, n.map)) in
      let body = written [] (optional_name n.name) ++ (written [] (labels n.labels) ++ written [] (map_text n.map)) in
      subst P (sym (node_is n))
      (as_part (After (k.LeftParen ∷ []) (Before D (k.RightParen ∷ []))) (Node E) d n (λ ts u. (d, u, refl)) ((40 ∷ []) ++ (body ++ (41 ∷ []))) behind
      (behind_token (k.LeftParen ∷ []) (Before D (k.RightParen ∷ [])) d (40 ∷ []) (body ++ (41 ∷ [])) behind (left_paren ((body ++ (41 ∷ [])) ++ behind))
      (before_token D (k.RightParen ∷ []) d body (41 ∷ []) behind (details n ((41 ∷ []) ++ behind) is refl) (right_paren behind))))
