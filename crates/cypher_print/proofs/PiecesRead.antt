-- Printed pieces that are read, and how they follow one another.
use Rattle.std.proofs.Common.{◌≡◌, inl, inr, ℕ, true, not, ◌||◌, eqb, List, [], ◌∷◌, ◌++◌, refl, sym, ap, subst, ◌∙◌, append_assoc}
use Rattle.std.specs.List.{flat_map}
use Rattle.cypher_syntax.specs.Bytes.{continues_word}
use Rattle.cypher_parse.specs.declared.kind.Kind.{Kind}
use Rattle.cypher_parse.specs.Languages.{Tokens, Lang, One, Seq, Map, After, Before, Alt, Opt, Many, Listed}
use Rattle.cypher_print.specs.Pieces.{Pieces, written}
use Rattle.cypher_print.specs.Printed.{joined}
use Rattle.cypher_print.specs.ReadBack.{parts_name}
use Rattle.cypher_print.specs.Sentences.{IsSentence, All}
use Rattle.cypher_print.proofs.Parts.{written-behind, written-both, as_part}
use Rattle.cypher_print.proofs.Sentences.{no_token, in_turn, Passes}

-- in front of what doesn't go on with a name
pub record Read {A : Type 0} (L : Lang A) (a : A) (ps : Pieces) : Type 0 where
  pub reads : (behind : List ℕ) → parts_name behind ≡ true → IsSentence L a (written [] ps) behind

-- in front of any bytes
pub record Sure {A : Type 0} (L : Lang A) (a : A) (ps : Pieces) : Type 0 where
  pub reads : (behind : List ℕ) → IsSentence L a (written [] ps) behind

-- they don't go on with a name in front
pub record Apart (ps : Pieces) : Type 0 where
  pub apart : (behind : List ℕ) → parts_name behind ≡ true → parts_name (written [] ps ++ behind) ≡ true

-- a token of these kinds
pub record Token (kinds : List Kind) (ps : Pieces) : Type 0 where
  pub token : Sure (Passes kinds) tt ps

-- a token of these kinds in front of what doesn't go on with a name
pub record Word (kinds : List Kind) (ps : Pieces) : Type 0 where
  pub word : Read (Passes kinds) tt ps

pub of_sure : {A : Type 0} {L : Lang A} {a : A} {p : Pieces} → Sure L a p → Read L a p
of_sure r = record { reads = λ behind _. r.reads behind }

-- ---- what they begin with

pub apart_none : Apart []
apart_none = record { apart = λ behind h. h }

pub begins : (b : ℕ) (w : List ℕ) (ps : Pieces) → not (continues_word b || eqb b 96) ≡ true → Apart ((b ∷ w) ∷ ps)
begins b w ps h = record { apart = λ behind _. ap (λ ys. parts_name (ys ++ behind)) (written-behind (b ∷ w) ps) ∙ h }

pub apart_both : {p q : Pieces} → Apart p → Apart q → Apart (p ++ q)
apart_both {p = p} {q = q} x y =
    record { apart = λ behind h. ap (λ ys. parts_name (ys ++ behind)) (written-both p q) ∙ ap parts_name (append_assoc (written [] p) (written [] q) behind) ∙ x.apart (written [] q ++ behind) (y.apart behind h) }

-- ---- one behind the other

pub turn : {A B C : Type 0} (L : Lang A) (M : Lang B) (N : Lang C) (a : A) (b : B) (c : C) → ((ts us : Tokens) → L ts a → M us b → N (ts ++ us) c)
    → (p q : Pieces) (behind : List ℕ) → IsSentence L a (written [] p) (written [] q ++ behind) → IsSentence M b (written [] q) behind → IsSentence N c (written [] (p ++ q)) behind
turn L M N a b c both p q behind x y = subst (λ bytes. IsSentence N c bytes behind) (sym (written-both p q)) (in_turn L M N a b c both (written [] p) (written [] q) behind x y)

pub seq : {A B : Type 0} {L : Lang A} {M : Lang B} {a : A} {b : B} {p q : Pieces} → Read L a p → Read M b q → Apart q → Read (Seq L M) (a, b) (p ++ q)
seq {L = L} {M = M} {a = a} {b = b} {p = p} {q = q} x y o =
    record { reads = λ behind h. turn L M (Seq L M) a b (a, b) (λ ts us u v. (ts, us, refl, u, v)) p q behind (x.reads (written [] q ++ behind) (o.apart behind h)) (y.reads behind h) }

pub seq_sure : {A B : Type 0} {L : Lang A} {M : Lang B} {a : A} {b : B} {p q : Pieces} → Sure L a p → Read M b q → Read (Seq L M) (a, b) (p ++ q)
seq_sure {L = L} {M = M} {a = a} {b = b} {p = p} {q = q} x y =
    record { reads = λ behind h. turn L M (Seq L M) a b (a, b) (λ ts us u v. (ts, us, refl, u, v)) p q behind (x.reads (written [] q ++ behind)) (y.reads behind h) }

pub seq_all : {A B : Type 0} {L : Lang A} {M : Lang B} {a : A} {b : B} {p q : Pieces} → Sure L a p → Sure M b q → Sure (Seq L M) (a, b) (p ++ q)
seq_all {L = L} {M = M} {a = a} {b = b} {p = p} {q = q} x y =
    record { reads = λ behind. turn L M (Seq L M) a b (a, b) (λ ts us u v. (ts, us, refl, u, v)) p q behind (x.reads (written [] q ++ behind)) (y.reads behind) }

-- ---- behind and in front of a token

pub after : {A : Type 0} {kinds : List Kind} {L : Lang A} {a : A} {p q : Pieces} → Word kinds p → Read L a q → Apart q → Read (After kinds L) a (p ++ q)
after {kinds = kinds} {L = L} {a = a} {p = p} {q = q} x y o =
    record { reads = λ behind h. turn (Passes kinds) L (After kinds L) tt a a (λ ts us u v. ((u.0, a), (ts, us, refl, (u.1, u.2), v), refl)) p q behind (x.word.reads (written [] q ++ behind) (o.apart behind h)) (y.reads behind h) }

pub after_sure : {A : Type 0} {kinds : List Kind} {L : Lang A} {a : A} {p q : Pieces} → Token kinds p → Read L a q → Read (After kinds L) a (p ++ q)
after_sure {kinds = kinds} {L = L} {a = a} {p = p} {q = q} x y =
    record { reads = λ behind h. turn (Passes kinds) L (After kinds L) tt a a (λ ts us u v. ((u.0, a), (ts, us, refl, (u.1, u.2), v), refl)) p q behind (x.token.reads (written [] q ++ behind)) (y.reads behind h) }

-- a token that nothing goes on with
pub after_all : {A : Type 0} {kinds : List Kind} {L : Lang A} {a : A} {p q : Pieces} → Token kinds p → Sure L a q → Sure (After kinds L) a (p ++ q)
after_all {kinds = kinds} {L = L} {a = a} {p = p} {q = q} x y =
    record { reads = λ behind. turn (Passes kinds) L (After kinds L) tt a a (λ ts us u v. ((u.0, a), (ts, us, refl, (u.1, u.2), v), refl)) p q behind (x.token.reads (written [] q ++ behind)) (y.reads behind) }

pub before : {A : Type 0} {kinds : List Kind} {L : Lang A} {a : A} {p q : Pieces} → Read L a p → Token kinds q → ((behind : List ℕ) → parts_name (written [] q ++ behind) ≡ true) → Sure (Before L kinds) a (p ++ q)
before {kinds = kinds} {L = L} {a = a} {p = p} {q = q} x y o =
    record { reads = λ behind. turn L (Passes kinds) (Before L kinds) a tt a (λ ts us u v. ((a, v.0), (ts, us, refl, u, (v.1, v.2)), refl)) p q behind (x.reads (written [] q ++ behind) (o behind)) (y.token.reads behind) }

pub before_read : {A : Type 0} {kinds : List Kind} {L : Lang A} {a : A} {p q : Pieces} → Read L a p → Word kinds q → Apart q → Read (Before L kinds) a (p ++ q)
before_read {kinds = kinds} {L = L} {a = a} {p = p} {q = q} x y o =
    record { reads = λ behind h. turn L (Passes kinds) (Before L kinds) a tt a (λ ts us u v. ((a, v.0), (ts, us, refl, u, (v.1, v.2)), refl)) p q behind (x.reads (written [] q ++ behind) (o.apart behind h)) (y.word.reads behind h) }

-- ---- the same tokens as a sentence of another language

pub via : {A B : Type 0} {L : Lang A} {M : Lang B} {a : A} {b : B} {p : Pieces} → ((ts : Tokens) → L ts a → M ts b) → Read L a p → Read M b p
via {L = L} {M = M} {a = a} {b = b} {p = p} f x = record { reads = λ behind h. as_part L M a b f (written [] p) behind (x.reads behind h) }

pub via_sure : {A B : Type 0} {L : Lang A} {M : Lang B} {a : A} {b : B} {p : Pieces} → ((ts : Tokens) → L ts a → M ts b) → Sure L a p → Sure M b p
via_sure {L = L} {M = M} {a = a} {b = b} {p = p} f x = record { reads = λ behind. as_part L M a b f (written [] p) behind (x.reads behind) }

pub mapped : {A B : Type 0} {L : Lang A} {a : A} {p : Pieces} (f : A → B) → Read L a p → Read (Map f L) (f a) p
mapped {a = a} f x = via (λ ts u. (a, u, refl)) x

pub passed_as : {B : Type 0} {kinds : List Kind} {p : Pieces} (b : B) → Word kinds p → Read (Map (λ t. b) (One kinds)) b p
passed_as b x = via (λ ts u. (u.0, (u.1, u.2), refl)) x.word

pub left : {A : Type 0} {L M : Lang A} {a : A} {p : Pieces} → Read L a p → Read (Alt L M) a p
left x = via (λ ts u. inl u) x

pub right : {A : Type 0} {L M : Lang A} {a : A} {p : Pieces} → Read M a p → Read (Alt L M) a p
right x = via (λ ts u. inr u) x

pub none : {A : Type 0} {L : Lang A} {a : A} → Read (Opt a L) a []
none {L = L} {a = a} = record { reads = λ behind _. no_token (Opt a L) a behind (inr (refl, refl)) }

pub none_sure : {A : Type 0} {L : Lang A} {a : A} → Sure (Opt a L) a []
none_sure {L = L} {a = a} = record { reads = λ behind. no_token (Opt a L) a behind (inr (refl, refl)) }

-- ---- the same bytes in other pieces

pub rewritten : {A : Type 0} {L : Lang A} {a : A} {p q : Pieces} → written [] p ≡ written [] q → Read L a p → Read L a q
rewritten {L = L} {a = a} e x = record { reads = λ behind h. subst (λ bytes. IsSentence L a bytes behind) e (x.reads behind h) }

pub rewritten_sure : {A : Type 0} {L : Lang A} {a : A} {p q : Pieces} → p ≡ q → Sure L a p → Sure L a q
rewritten_sure {L = L} {a = a} e x = subst (λ ps. Sure L a ps) e x

pub regrouped : {A : Type 0} {L : Lang A} {a : A} (p q r : Pieces) → Read L a (p ++ (q ++ r)) → Read L a ((p ++ q) ++ r)
regrouped {L = L} {a = a} p q r x = subst (λ ps. Read L a ps) (sym (append_assoc p q r)) x

-- ---- any number of them

pub many_apart : {A : Type 0} (f : A → Pieces) (Good : A → Type 0) → ((x : A) → Good x → Apart (f x)) → (xs : List A) → All Good xs → Apart (flat_map f xs)
many_apart f Good o [] are = apart_none
many_apart f Good o (x ∷ xs) are = apart_both (o x are.0) (many_apart f Good o xs are.1)

pub many : {A : Type 0} {L : Lang A} (f : A → Pieces) (Good : A → Type 0) → ((x : A) → Good x → Read L x (f x)) → ((x : A) → Good x → Apart (f x)) → (xs : List A) → All Good xs → Read (Many L) xs (flat_map f xs)
many {L = L} f Good each o [] are = record { reads = λ behind _. no_token (Many L) [] behind refl }
many {L = L} f Good each o (x ∷ xs) are = via (λ ts u. u) (seq (each x are.0) (many {L = L} f Good each o xs are.1) (many_apart f Good o xs are.1))

pub many_sure : {A : Type 0} {L : Lang A} (f : A → Pieces) (Good : A → Type 0) → ((x : A) → Good x → Sure L x (f x)) → (xs : List A) → All Good xs → Sure (Many L) xs (flat_map f xs)
many_sure {L = L} f Good each [] are = record { reads = λ behind. no_token (Many L) [] behind refl }
many_sure {L = L} f Good each (x ∷ xs) are =
    let head = each x are.0 in
    let tail = many_sure {L = L} f Good each xs are.1 in
    record { reads = λ behind. turn L (Many L) (Many L) x xs (x ∷ xs) (λ ts us u v. (ts, us, refl, u, v)) (f x) (flat_map f xs) behind (head.reads (written [] (flat_map f xs) ++ behind)) (tail.reads behind) }

-- one or more, with a token between
pub listed : {A : Type 0} {L : Lang A} {kinds : List Kind} (s : List ℕ) (f : A → Pieces) (Good : A → Type 0) → Token kinds (s ∷ []) → ((ps : Pieces) → Apart (s ∷ ps)) → ((x : A) → Good x → Read L x (f x))
    → (x : A) (xs : List A) → All Good (x ∷ xs) → Read (Listed kinds L) (x ∷ xs) (joined s f (x ∷ xs))
listed {L = L} {kinds = kinds} s f Good sep o each x xs are =
    mapped (λ p. p.0 ∷ p.1)
    (seq (each x are.0) (many {L = After kinds L} (λ y. s ∷ f y) Good (λ y is. after_sure sep (each y is)) (λ y is. o (f y)) xs are.1) (many_apart (λ y. s ∷ f y) Good (λ y is. o (f y)) xs are.1))
