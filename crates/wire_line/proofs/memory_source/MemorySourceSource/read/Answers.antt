use Rattle.std.proofs.Common.{◌≡◌, ℕ, ◌+◌, ◌-◌, ◌≤◌, List, length, take, drop, sym, ap, ◌∙◌, arith}
use Rattle.std.proofs.lemmas.List.{take_rest, length-take-le, length-append, length-drop, nil_from_length}
use Rattle.wire_line.specs.Memory.{Supply}
use Rattle.wire_line.proofs.Memory.{copied_front, memory_left, memory_came}
use Rattle.wire_line.proofs.memory_source.MemorySourceSource.read.Goals as goal

pub returns-clause-left : goal.returns-clause-left
returns-clause-left c =
    let at : ℕ = c.self.inside.at in
    let items : List ℕ = c.self.inside.bytes.items in
    let count : ℕ = c.min-count.result in
    let rest : take (length c.deref.result.now - at) (drop at c.deref.result.now) ≡ drop at items =
    take_rest c.deref.result.now at ∙ ap (λ (bytes : List ℕ). drop at bytes) c.deref.ensures.value in
    let there : count ≤ length (drop at items) = omega (arith, ap length rest, c.min-count.ensures, c.min.ensures) in
    let same : c.copy_from_slice.new.self ≡ take count (drop at items) =
    c.copy_from_slice.ensures.after ∙ ap (λ (bytes : List ℕ). take count bytes) rest in
    let size : length c.copy_from_slice.new.self ≡ count = ap length same ∙ length-take-le count (drop at items) there in
    let given = copied_front c.copy_from_slice.new.self c.args.buf.now (drop at items) count size same in (
      memory_left items c.args.self.now.left _ at count (sym (ap (λ (s : Supply). s.left) c.self.view_is)) given,
      λ none room. nil_from_length _
          (omega (arith, none, room, ap length rest, c.min-count.ensures, c.min.ensures, c.self.invariant.1, size, length-append c.copy_from_slice.new.self (drop count c.args.buf.now), length-drop count c.args.buf.now, length-drop (at + count) items, length-drop at items)),
    )

pub returns-clause-came : goal.returns-clause-came
returns-clause-came c =
    let at : ℕ = c.self.inside.at in
    let items : List ℕ = c.self.inside.bytes.items in
    let count : ℕ = c.min-count.result in
    let rest : take (length c.deref.result.now - at) (drop at c.deref.result.now) ≡ drop at items =
    take_rest c.deref.result.now at ∙ ap (λ (bytes : List ℕ). drop at bytes) c.deref.ensures.value in
    let there : count ≤ length (drop at items) = omega (arith, ap length rest, c.min-count.ensures, c.min.ensures) in
    let same : c.copy_from_slice.new.self ≡ take count (drop at items) =
    c.copy_from_slice.ensures.after ∙ ap (λ (bytes : List ℕ). take count bytes) rest in
    let size : length c.copy_from_slice.new.self ≡ count = ap length same ∙ length-take-le count (drop at items) there in
    memory_came items c.args.self.now.came _ at count (sym (ap (λ (s : Supply). s.came) c.self.view_is))
    (copied_front c.copy_from_slice.new.self c.args.buf.now (drop at items) count size same)
