use Rattle.std.proofs.Common.{◌∙◌, ap, sym, subst, arith, string_bytes, length, ◌-◌, ◌+◌, Some}
use Rattle.std.specs.Str.{IsUtf8}
use Rattle.cypher_syntax.specs.Quotes.{part_of}
use Rattle.cypher_syntax.proofs.Insides.{closes, breaks, goes_on, char_boundary}
use Rattle.cypher_syntax.proofs.lexer.quotes.inside.Goals as goal

pub returns-in-Closes-clause-value : goal.returns-in-Closes-clause-value
returns-in-Closes-clause-value c =
    ap (λ v. Some (v, length c.args.text.now - length c.split_at.result.1.now + 1)) c.from_string.ensures
    ∙ closes c.args.text.now
    (record { run = c.plain_len.ensures.value; plain_is = c.split_at.ensures.front; behind_is = c.split_at.ensures.back; value_is = c.in_ok-push_str.ensures.bytes })
    (ap (part_of c.args.quote) (sym c.as_bytes.ensures.value) ∙ sym c.part_of.ensures ∙ c.in-Closes.is) c.loop-value.invariant.1 c.loop-value.invariant.2

pub range_from-rest-requires : goal.range_from-rest-requires
range_from-rest-requires c = λ _. char_boundary c.args.quote c.in-Char.c c.in-Char.len c.split_at.result.1.now (subst IsUtf8 c.as_bytes.ensures.value c.as_bytes.ensures.utf8)
    (ap (part_of c.args.quote) (sym c.as_bytes.ensures.value) ∙ sym c.part_of.ensures ∙ c.in-Char.is)

pub loop-value-smaller : goal.loop-value-smaller
loop-value-smaller c = (goes_on c.args.text.now c.in-Char.c c.in-Char.len (string_bytes c.push.new.self) c.range_from-rest.result.now
    (record { run = c.plain_len.ensures.value; plain_is = c.split_at.ensures.front; behind_is = c.split_at.ensures.back; value_is = c.in_ok-push_str.ensures.bytes })
    (ap (part_of c.args.quote) (sym c.as_bytes.ensures.value) ∙ sym c.part_of.ensures ∙ c.in-Char.is) c.loop-value.invariant.1
    c.in_ok-push-in-Char.ensures.bytes c.range_from-rest.ensures.value c.loop-value.invariant.2).0

pub loop-value-preserved : goal.loop-value-preserved
loop-value-preserved c =
    let next = goes_on c.args.text.now c.in-Char.c c.in-Char.len (string_bytes c.push.new.self) c.range_from-rest.result.now
    (record { run = c.plain_len.ensures.value; plain_is = c.split_at.ensures.front; behind_is = c.split_at.ensures.back; value_is = c.in_ok-push_str.ensures.bytes })
    (ap (part_of c.args.quote) (sym c.as_bytes.ensures.value) ∙ sym c.part_of.ensures ∙ c.in-Char.is) c.loop-value.invariant.1
    c.in_ok-push-in-Char.ensures.bytes c.range_from-rest.ensures.value c.loop-value.invariant.2 in
    (c.range_from-rest.utf8, omega (arith, next.0, c.loop-value.invariant.1), next.1)

pub returns-in-Broken-clause-value : goal.returns-in-Broken-clause-value
returns-in-Broken-clause-value c = breaks c.args.text.now
    (record { run = c.plain_len.ensures.value; plain_is = c.split_at.ensures.front; behind_is = c.split_at.ensures.back; value_is = c.in_ok-push_str.ensures.bytes })
    (ap (part_of c.args.quote) (sym c.as_bytes.ensures.value) ∙ sym c.part_of.ensures ∙ c.in-Broken.is) c.loop-value.invariant.2
