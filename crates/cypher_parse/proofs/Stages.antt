-- The loop over the parts that a WITH ends.
use Rattle.std.proofs.Common.{◌≡◌, ℕ, zero, suc, Bool, true, false, List, [], ◌∷◌, ◌++◌, length, ◌<◌, refl, sym, ap, ◌∙◌}
use Rattle.std.proofs.lemmas.List.{append_assoc, append-nil}
use Rattle.std.proofs.lemmas.Bool.{false≢true}
use Rattle.cypher_syntax.specs.declared.tree.clause.Clause.{Clause}
use Rattle.cypher_syntax.specs.declared.tree.projection.Projection.{Projection}
use Rattle.cypher_syntax.specs.declared.tree.query.Stage.{Stage}
use Rattle.cypher_parse.specs.declared.kind.Kind.TheVariants as k
use Rattle.cypher_parse.specs.declared.stop.Stop.{Stop}
use Rattle.cypher_parse.specs.declared.stop.Stop.TheVariants as stop
use Rattle.cypher_parse.specs.Languages.{Tokens, is_of}
use Rattle.cypher_parse.specs.Reads.{Stopped}
use Rattle.cypher_parse.specs.Parsers.{Outcome, Done, Fault, and_then, heads, map_out, many_in, many}
use Rattle.cypher_parse.specs.ExpressionParsers.{expression}
use Rattle.cypher_parse.specs.QueryParsers.{Clauses, Stages, stages_from, last_from, parted, clauses, stage, stages}
use Rattle.cypher_parse.proofs.Sets.{chosen, other_chosen}
use Rattle.cypher_parse.proofs.Turns.{loop_shrinks, next_made}
use Rattle.cypher_parse.proofs.AtLimit.{stage_at_limit}

abbrev Staged : Type 0
Staged = List Stage × Clauses

-- what a part becomes, with the clauses in front of it
abbrev made : Clauses → Projection → Stage
made behind next = record { clauses = behind.0 ++ behind.1; next = next }

-- the parts so far and the clauses behind them, with what the rest gives
abbrev pub regathered : List Stage → Clauses → Tokens → Outcome (List Stage × Clauses)
regathered found behind ts = and_then (many (k.With ∷ []) (stage (expression 64)) ts) (λ items rest. Done (found ++ stages_from behind items, last_from behind items) rest)

abbrev pub all_stages : Tokens → Outcome (List Stage × Clauses)
all_stages ts = map_out parted (stages (expression 64)) ts

pub stages_begin : (ts mid : Tokens) (behind : Clauses) (found : List Stage) → clauses (expression 64) ts ≡ Done behind mid → found ≡ [] → all_stages ts ≡ regathered found behind mid
unfolding stages
stages_begin ts mid behind found h e =
    ap (λ o. and_then {A = Stages} {B = Staged} (and_then {A = Clauses} {B = Stages} o (λ a rest. and_then {A = List (Projection × Clauses)} {B = Stages} (many (k.With ∷ []) (stage (expression 64)) rest) (λ b rest. Done (a, b) rest))) (λ v rest. Done (parted v) rest)) h
    ∙ by (many (k.With ∷ []) (stage (expression 64)) mid)
    ∙ ap (λ found. regathered found behind mid) (sym e)
  where
    by : (o : Outcome (List (Projection × Clauses))) → and_then {A = Stages} {B = Staged} (and_then {A = List (Projection × Clauses)} {B = Stages} o (λ b rest. Done (behind, b) rest)) (λ v rest. Done (parted v) rest) ≡ and_then o (λ items rest. Done ([] ++ stages_from behind items, last_from behind items) rest)
    by (Done items rest) = refl
    by (Fault deep rest) = refl

pub stages_fault : (ts rest : Tokens) (deep : Bool) → clauses (expression 64) ts ≡ Fault deep rest → all_stages ts ≡ Fault deep rest
unfolding stages
stages_fault ts rest deep h =
    ap (λ o. and_then {A = Stages} {B = Staged} (and_then {A = Clauses} {B = Stages} o (λ a rest. and_then {A = List (Projection × Clauses)} {B = Stages} (many (k.With ∷ []) (stage (expression 64)) rest) (λ b rest. Done (a, b) rest))) (λ v rest. Done (parted v) rest)) h

pub stages_go_on : (start : Outcome (List Stage × Clauses)) (found pushed : List Stage) (behind more : Clauses) (next : Projection) (before : List Clause) (ts mid : Tokens) → start ≡ regathered found behind ts → heads (k.With ∷ []) ts ≡ true → stage (expression 64) ts ≡ Done (next, more) mid
    → before ≡ behind.0 ++ behind.1 → pushed ≡ found ++ record { clauses = before; next = next } ∷ [] → start ≡ regathered pushed more mid
stages_go_on start found pushed behind more next before ts mid inv h is b p =
    next_made (k.With ∷ []) _ (stage (expression 64)) _ (stage_at_limit.low refl) refl start (λ items. (found ++ stages_from behind items, last_from behind items)) (λ items. (pushed ++ stages_from more items, last_from more items)) ts mid (next, more) inv h is
    (λ items. ap (λ stages. (stages, last_from more items)) (sym (append_assoc found (made behind next ∷ []) (stages_from more items)) ∙ ap (λ stages. stages ++ stages_from more items) (ap (λ before. found ++ record { clauses = before; next = next } ∷ []) (sym b) ∙ sym p)))

pub stages_shrink : (ts mid : Tokens) (a : Projection × Clauses) → stage (expression 64) ts ≡ Done a mid → length mid < length ts
stages_shrink ts mid a is = loop_shrinks (stage_at_limit.low refl) refl ts a mid is

abbrev later : ℕ → Projection × Clauses → Tokens → Outcome (List (Projection × Clauses))
later n a rest = and_then (many_in n (k.With ∷ []) (stage (expression 64)) rest) (λ items rest. Done (a ∷ items) rest)

pub stage_fault : (start : Outcome (List Stage × Clauses)) (found : List Stage) (behind : Clauses) (ts rest : Tokens) (deep : Bool) → start ≡ regathered found behind ts → heads (k.With ∷ []) ts ≡ true → stage (expression 64) ts ≡ Fault deep rest → start ≡ Fault deep rest
stage_fault start found behind [] rest deep inv h is = absurd (false≢true h)
stage_fault start found behind (t ∷ ts) rest deep inv h is =
    inv ∙ ap (λ o. and_then o (λ items rest. Done (found ++ stages_from behind items, last_from behind items) rest))
    (chosen (is_of (k.With ∷ []) t) (and_then (stage (expression 64) (t ∷ ts)) (later (length ts))) (Done [] (t ∷ ts)) h ∙ ap (λ o. and_then o (later (length ts))) is)

pub stages_end : (start : Outcome (List Stage × Clauses)) (found : List Stage) (behind : Clauses) (ts : Tokens) → start ≡ regathered found behind ts → heads (k.With ∷ []) ts ≡ false → start ≡ Done (found, behind) ts
stages_end start found behind ts inv h =
    inv ∙ ap (λ o. and_then o (λ items rest. Done (found ++ stages_from behind items, last_from behind items) rest)) (ends (length ts) ts h) ∙ ap (λ found. Done (found, behind) ts) (append-nil found)
  where
    ends : (n : ℕ) (ts : Tokens) → heads (k.With ∷ []) ts ≡ false → many_in n (k.With ∷ []) (stage (expression 64)) ts ≡ Done [] ts
    ends zero ts e = other_chosen (heads (k.With ∷ []) ts) (Fault false ts) (Done [] ts) e
    ends (suc n) ts e = other_chosen (heads (k.With ∷ []) ts) (and_then (stage (expression 64) ts) (later n)) (Done [] ts) e

-- a stop in the clauses in front of the first WITH is one of the whole
pub stages_stopped : (ts new : Tokens) (e : Stop) → Stopped (clauses (expression 64) ts) e new → Stopped (all_stages ts) e new
stages_stopped ts new stop.NoMemory h = tt
stages_stopped ts new stop.Syntax h = stages_fault ts new false h
stages_stopped ts new stop.TooDeep h = stages_fault ts new true h
