-- What WITH and RETURN make of the rows is read from its printed form.
use Rattle.std.proofs.Common.{◌≡◌, inl, inr, ℕ, ◌<◌, pos, Bool, true, false, List, [], ◌∷◌, ◌++◌, length, codes, Option, Some, None, refl, sym, ap, subst, ◌∙◌, append_assoc, append-nil, arith}
use Rattle.std.specs.Fmt.{decimal}
use Rattle.cypher_syntax.specs.declared.tree.expr.Expr.{Expr}
use Rattle.cypher_syntax.specs.declared.tree.projection.Item.{Item}
use Rattle.cypher_syntax.specs.declared.tree.projection.Projection.{Projection}
use Rattle.cypher_syntax.specs.declared.tree.projection.Sort.{Sort}
use Rattle.cypher_parse.specs.declared.kind.Kind.TheVariants as k
use Rattle.cypher_parse.specs.Kinds.{number, member}
use Rattle.cypher_parse.specs.Texts.{lexeme_of}
use Rattle.cypher_parse.specs.Languages.{Lang, One, Map, After, Alt, Opt, Listed}
use Rattle.cypher_parse.specs.Expressions.{Name, Flag}
use Rattle.cypher_parse.specs.Projections.{item_of, Parts, projection_of, Number, Count, Direction, SortItem, SortsOrNone, Parted, ReturnItem, WithItem, Returned, Passed}
use Rattle.cypher_print.specs.Pieces.{Pieces, written, name}
use Rattle.cypher_print.specs.Printed.{joined, distinct_word, expr, option}
use Rattle.cypher_print.specs.QueryText.{as_name, item, star_text, down_word, sort_key, sorts_text, count_text, projection}
use Rattle.cypher_print.specs.Sentences.{All, IsNameOrNone, IsReadIn}
use Rattle.cypher_print.specs.QuerySentences.{IsReturnItem, IsWithItem, IsStarOr, IsSmall, IsCount, IsReturned, IsPassed}
use Rattle.cypher_print.proofs.PrintLemmas.{print-Var}
use Rattle.cypher_print.proofs.ReadNumbers.{numbers}
use Rattle.cypher_print.proofs.Sentences.{one_token, no_token}
use Rattle.cypher_print.proofs.PiecesRead.{Read, Sure, Apart, apart_none, begins, apart_both, seq, seq_sure, after_sure, via, via_sure, rewritten, left, right, none}
use Rattle.cypher_print.proofs.WordsRead.{parts_too, distinct, star, order, by, desc, skip, limit, as_word}
use Rattle.cypher_print.proofs.PartsRead.{a_name, commas, an_expr, apart_count, apart_option}
use Rattle.cypher_print.proofs.ReadingsRead.{where_read}

-- ---- numbers

pub a_number : (n : ℕ) → IsSmall n → Read Number n (decimal n ∷ [])
a_number n small = record {
  reads = λ behind h. (let r = numbers n behind small (parts_too behind h) in
      one_token Number n (decimal n) behind (r.0, r.1, λ place. (pos n, (lexeme_of r.0 (decimal n) place, refl, ap (λ j. member (number j) (k.Integer ∷ [])) (r.2 place).0, (r.2 place).1), refl)));
}

skip_read : (o : Option ℕ) → IsCount o → Read (Count k.Skip) o (count_text (codes " SKIP ") o)
skip_read None is = none
skip_read (Some n) is = left (via (λ ts u. (n, u, refl)) (after_sure skip (a_number n is)))

limit_read : (o : Option ℕ) → IsCount o → Read (Count k.Limit) o (count_text (codes " LIMIT ") o)
limit_read None is = none
limit_read (Some n) is = left (via (λ ts u. (n, u, refl)) (after_sure limit (a_number n is)))

-- ---- DISTINCT and `*`

pub distinct_read : (b : Bool) → Sure (Flag k.Distinct) b (distinct_word b)
distinct_read true = via_sure (λ ts u. inl (u.0, (u.1, u.2), refl)) distinct.token
distinct_read false = record { reads = λ behind. no_token (Flag k.Distinct) false behind (inr (refl, refl)) }

abbrev Items : Lang Item → Lang (Bool × List Item)
Items Each = Alt (Map (λ t. (true, [])) (One (k.Star ∷ []))) (Map (λ items. (false, items)) (Listed (k.Comma ∷ []) Each))

items_read : (Each : Lang Item) (Good : Item → Type 0) → ((i : Item) → Good i → Read Each i (item i)) → (b : Bool) (items : List Item) → IsStarOr Good b items → Read (Items Each) (b, items) (star_text b ++ joined (codes ", ") item items)
items_read Each Good each true items is =
    let P : List Item → Type 0 = λ items. Read (Items Each) (true, items) (star_text true ++ joined (codes ", ") item items) in
    subst P (sym is) (left (via (λ ts u. (u.0, (u.1, u.2), refl)) star.word))
items_read Each Good each false items is = right (via (λ ts u. (items, u, refl)) (commas item Good each items is))

-- ---- projections

module _ (E : Lang Expr) where
  as_read : (o : Option (List ℕ)) → IsNameOrNone o → Read (Opt None (Map Some (After (k.As ∷ []) Name))) o (as_name o)
  as_read None is = none
  as_read (Some n) is = left (via (λ ts u. (n, u, refl)) (after_sure as_word (a_name n is)))

  as_apart : (o : Option (List ℕ)) → Apart (as_name o)
  as_apart None = apart_none
  as_apart (Some n) = begins 32 (codes "AS ") (name n) refl

  return_item : (i : Item) → IsReturnItem E i → Read (ReturnItem E) i (item i)
  unfolding ReturnItem
  return_item i is = via (λ ts u. ((i.expr, i.name), u, refl)) (seq (an_expr E i.expr is.0) (as_read i.name is.1) (as_apart i.name))

  with_item : (x : Expr) (o : Option (List ℕ)) → IsWithItem E (item_of (x, o)) → Read (WithItem E) (item_of (x, o)) (item (item_of (x, o)))
  unfolding WithItem
  with_item x (Some n) is = left (via (λ ts u. ((x, n), u, refl)) (seq (an_expr E x is.0) (after_sure as_word (a_name n is.1)) (as_apart (Some n))))
  with_item x None is =
      let n = is.0 in
      let same : name n ≡ expr x 0 ++ [] = sym (append-nil (expr x 0) ∙ ap (λ y. expr y 0) is.1 ∙ print-Var n) in
      right (via (λ ts u. (n, u, ap (λ y. item_of (y, None)) (sym is.1))) (rewritten (ap (written []) same) (a_name n is.2)))

  direction : (b : Bool) → Read Direction b (down_word b)
  direction true = right (left (via (λ ts u. (u.0, (u.1, u.2), refl)) desc.word))
  direction false = right none

  down_apart : (b : Bool) → Apart (down_word b)
  down_apart true = begins 32 (codes "DESC") [] refl
  down_apart false = apart_none

  sort_read : (s : Sort) → IsReadIn E s.expr → Read (SortItem E) s (sort_key s)
  unfolding SortItem
  sort_read s is = via (λ ts u. ((s.expr, s.down), u, refl)) (seq (an_expr E s.expr is) (direction s.down) (down_apart s.down))

  sorts_read : (ss : List Sort) → All (λ s. IsReadIn E s.expr) ss → Read (SortsOrNone E) ss (sorts_text ss)
  sorts_read [] are = none
  sorts_read (s ∷ ss) are =
      let some : 0 < length (s ∷ ss) = omega arith in
      left (rewritten refl (after_sure order (after_sure by (commas sort_key (λ s. IsReadIn E s.expr) sort_read (s ∷ ss) (some, are)))))

  sorts_apart : (ss : List Sort) → Apart (sorts_text ss)
  sorts_apart [] = apart_none
  sorts_apart (s ∷ ss) = begins 32 (codes "ORDER BY ") (joined (codes ", ") sort_key (s ∷ ss)) refl

  -- the parts of a projection, side by side
  flat : (d s i o n l w : Pieces) → d ++ ((s ++ i) ++ (o ++ (n ++ l))) ++ w ≡ d ++ s ++ i ++ o ++ n ++ l ++ w
  flat d s i o n l w = ap (λ ys. ys ++ w)
      (sym (append_assoc (((d ++ s) ++ i) ++ o) n l ∙ append_assoc ((d ++ s) ++ i) o (n ++ l) ∙ ap (λ ys. ys ++ (o ++ (n ++ l))) (append_assoc d s i) ∙ append_assoc d (s ++ i) (o ++ (n ++ l))))

  module _ (Each : Lang Item) (Good : Item → Type 0) (each : (i : Item) → Good i → Read Each i (item i)) (p : Projection) (is : IsStarOr Good p.star p.items) (sorts : All (λ s. IsReadIn E s.expr) p.sort) (skips : IsCount p.skip) (limits : IsCount p.limit) where
    abbrev tail_text : Pieces
    tail_text = sorts_text p.sort ++ (count_text (codes " SKIP ") p.skip ++ count_text (codes " LIMIT ") p.limit)

    tail_apart : Apart tail_text
    tail_apart = apart_both (sorts_apart p.sort) (apart_both (apart_count (codes "SKIP ") p.skip) (apart_count (codes "LIMIT ") p.limit))

    parts_read : Read (Parted E Each) (p.distinct, ((p.star, p.items), (p.sort, (p.skip, p.limit)))) (distinct_word p.distinct ++ ((star_text p.star ++ joined (codes ", ") item p.items) ++ tail_text))
    parts_read =
        seq_sure (distinct_read p.distinct)
        (seq (items_read Each Good each p.star p.items is)
        (seq (sorts_read p.sort sorts)
        (seq (skip_read p.skip skips) (limit_read p.limit limits) (apart_count (codes "LIMIT ") p.limit))
        (apart_both (apart_count (codes "SKIP ") p.skip) (apart_count (codes "LIMIT ") p.limit)))
        tail_apart)

  whole_text : (p : Projection) → Pieces
  whole_text p = distinct_word p.distinct ++ ((star_text p.star ++ joined (codes ", ") item p.items) ++ (sorts_text p.sort ++ (count_text (codes " SKIP ") p.skip ++ count_text (codes " LIMIT ") p.limit)))

  as_printed : (p : Projection) → whole_text p ++ option (codes " WHERE ") p.filter ≡ projection p
  unfolding whole_text
  as_printed p = flat (distinct_word p.distinct) (star_text p.star) (joined (codes ", ") item p.items) (sorts_text p.sort) (count_text (codes " SKIP ") p.skip) (count_text (codes " LIMIT ") p.limit) (option (codes " WHERE ") p.filter)

  pub returned : (p : Projection) → IsReturned E p → Read (Returned E) p (projection p)
  unfolding Returned whole_text
  returned p is =
      let of = is.0 in
      let x = parts_read (ReturnItem E) (IsReturnItem E) return_item p of.0 of.1 of.2 of.3 in
      let same : whole_text p ≡ projection p = sym (append-nil (whole_text p)) ∙ ap (λ f. whole_text p ++ option (codes " WHERE ") f) (sym is.1) ∙ as_printed p in
      let parts : Parts = (p.distinct, ((p.star, p.items), (p.sort, (p.skip, p.limit)))) in
      rewritten (ap (written []) same) (via (λ ts u. (parts, u, ap (λ f. projection_of f parts) (sym is.1))) x)

  pub passed : (p : Projection) → IsPassed E p → Read (Passed E) p (projection p)
  unfolding Passed whole_text
  passed p is =
      let of = is.0 in
      let x = parts_read (WithItem E) (IsWithItem E) (λ i. with_item i.expr i.name) p of.0 of.1 of.2 of.3 in
      let parts : Parts = (p.distinct, ((p.star, p.items), (p.sort, (p.skip, p.limit)))) in
      rewritten (ap (written []) (as_printed p)) (via (λ ts u. ((parts, p.filter), u, refl)) (seq x (where_read E p.filter is.1) (apart_option (codes "WHERE ") p.filter)))
