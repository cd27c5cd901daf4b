use Rattle.std.proofs.Common.{◌<◌, ◌≤◌, ◌+◌, ◌∙◌, ℕ, Option, IfSome, length, drop, sym, ap, subst}
use Rattle.cypher_syntax.specs.Lexing.{lexed, front_of}
use Rattle.cypher_syntax.specs.Steps.{Stepped}
use Rattle.cypher_syntax.proofs.Lexes.{goes_on, stops, ends}
use Rattle.cypher_syntax.proofs.lexer.tokens.Goals as goal

pub loop-at-preserved : goal.loop-at-preserved
loop-at-preserved c =
    let text = c.as_str-text.result.now in
    let at = c.loop-at.at in
    let P : Option ℕ → Type 0 = λ r. Stepped at (front_of (drop at text)) c.loop-at.tokens c.step.new.tokens r in
    let Q : Option ℕ → Type 0 = λ r. IfSome r (λ n. (0 < n) × (at + n ≤ length text)) in
    let passed = subst Q c.in-Some.is c.in_ok-len.ensures.passed in
    record {
      within = passed.1;
      same = sym (goes_on text at c.in-Some.len c.loop-at.tokens c.step.new.tokens c.loop-at-test.true passed.0 (subst P c.in-Some.is c.in_ok-len.ensures.stepped)) ∙ c.loop-at.invariant.same;
    }

pub returns-in-None-clause-refused : goal.returns-in-None-clause-refused
returns-in-None-clause-refused c =
    let text = c.as_str-text.result.now in
    let at = c.loop-at.at in
    let P : Option ℕ → Type 0 = λ r. Stepped at (front_of (drop at text)) c.loop-at.tokens c.step.new.tokens r in
    ap lexed (sym c.as_str-text.ensures) ∙ sym c.loop-at.invariant.same
    ∙ stops text at c.loop-at.tokens c.step.new.tokens c.loop-at-test.true (subst P c.in-None.is c.in_ok-len.ensures.stepped)

pub returns-clause-whole : goal.returns-clause-whole
returns-clause-whole c =
    ap lexed (sym c.as_str-text.ensures) ∙ sym c.loop-at.invariant.same ∙ ends c.as_str-text.result.now c.loop-at.at c.loop-at.tokens c.loop-at-test.false
