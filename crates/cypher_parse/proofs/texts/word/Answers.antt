use Rattle.cypher_parse.proofs.Spans.{word_starts, word_ends}
use Rattle.cypher_parse.proofs.texts.word.Goals as goal

pub range-written-requires-clause-start_boundary : goal.range-written-requires-clause-start_boundary
range-written-requires-clause-start_boundary c = λ _. word_starts c.args.text.now c.args.from c.args.to c.requires.some c.requires.within c.requires.is_word

pub range-written-requires-clause-end_boundary : goal.range-written-requires-clause-end_boundary
range-written-requires-clause-end_boundary c = word_ends c.args.text.now c.args.from c.args.to c.requires.some c.requires.within c.requires.is_word c.utf8.text
