use Rattle.std.proofs.Common.{◌≡◌, ◌++◌, codes, string_bytes, ap, ◌∙◌, append_assoc}
use Rattle.graph_value.specs.Id.{vertex_text}
use Rattle.event_lines.proofs.Pushed.{pushed_after}
use Rattle.event_lines.proofs.reply.push_has_edges.Goals as goal

-- the text in front of the vertex
pub returns : goal.returns
returns c =
    let said : string_bytes c.push_str-2.new.self ≡ string_bytes c.args.out.now ++ codes "refused 5 has edges " =
    c.in_ok-push_str-2.ensures.bytes ∙ ap (λ t. t ++ codes "has edges ") c.in_ok-push_str.ensures.bytes ∙ append_assoc (string_bytes c.args.out.now) (codes "refused 5 ") (codes "has edges ") in
    record { ok = pushed_after _ _ _ _ (codes "refused 5 has edges ") (vertex_text c.args.id) said c.push_oid.ensures.ok }
