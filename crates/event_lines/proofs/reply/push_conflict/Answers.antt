use Rattle.std.proofs.Common.{◌≡◌, ◌++◌, codes, string_bytes, ap, ◌∙◌, append_assoc}
use Rattle.graph_value.specs.Id.{oid_text}
use Rattle.event_lines.specs.Reply.{rival_text}
use Rattle.event_lines.proofs.Pushed.{pushed_after}
use Rattle.event_lines.proofs.reply.push_conflict.Goals as goal

-- the text in front of the rival
pub returns : goal.returns
returns c =
    let named : string_bytes c.push_oid.new.out ≡ string_bytes c.args.out.now ++ (codes "refused 4 conflict " ++ oid_text c.args.x) =
    c.in_ok-push_oid.ensures.ok ∙ ap (λ t. t ++ oid_text c.args.x) c.in_ok-push_str.ensures.bytes ∙ append_assoc (string_bytes c.args.out.now) (codes "refused 4 conflict ") (oid_text c.args.x) in
    let parted : string_bytes c.push_str-2.new.self ≡ string_bytes c.args.out.now ++ (codes "refused 4 conflict " ++ oid_text c.args.x ++ codes " ") =
    c.in_ok-push_str-2.ensures.bytes ∙ ap (λ t. t ++ codes " ") named ∙ append_assoc (string_bytes c.args.out.now) (codes "refused 4 conflict " ++ oid_text c.args.x) (codes " ") in
    record { ok = pushed_after _ _ _ _ (codes "refused 4 conflict " ++ oid_text c.args.x ++ codes " ") (rival_text c.args.rival) parted c.push_rival.ensures.ok }
