use Rattle.std.proofs.Common.{◌≡◌, ℕ, List, ◌++◌, codes, string_bytes, ap, ◌∙◌, append_assoc}
use Rattle.std.specs.Fmt.{decimal}
use Rattle.event_lines.proofs.Pushed.{pushed_after}
use Rattle.event_lines.proofs.reply.push_time_ahead.Goals as goal

-- the text in front of the instant
pub returns : goal.returns
returns c =
    let said : string_bytes c.push_str-2.new.self ≡ string_bytes c.args.out.now ++ codes "refused 6 time " =
    c.in_ok-push_str-2.ensures.bytes ∙ ap (λ t. t ++ codes "time ") c.in_ok-push_str.ensures.bytes ∙ append_assoc (string_bytes c.args.out.now) (codes "refused 6 ") (codes "time ") in
    let later : List ℕ = codes "ahead " ++ (decimal c.args.t ++ (codes " start " ++ decimal c.args.start)) in
    record { ok = rw (append_assoc (decimal c.args.t) (codes " start ") (decimal c.args.start)) (pushed_after _ _ _ _ (codes "refused 6 time ") later said c.write.ensures.bytes) }
