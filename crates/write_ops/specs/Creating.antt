-- CREATE: pattern by pattern in each row, behind the operations that are there.
use Rattle.std.specs.Prelude.{ℕ, ◌+◌, List, [], ◌∷◌, ◌++◌, map, true, Option, Some, None, Ok, Err, if◌then◌else◌}
use Rattle.graph_value.specs.declared.value.Value.{Value}
use Rattle.graph_record.specs.Graph.{Graph}
use Rattle.cypher_syntax.specs.declared.tree.expr.Expr.{Expr}
use Rattle.cypher_syntax.specs.declared.tree.pattern.Arrow.{Arrow}
use Rattle.cypher_syntax.specs.declared.tree.pattern.Arrow.TheVariants.{Left}
use Rattle.cypher_syntax.specs.declared.tree.pattern.EdgePattern.{EdgePattern}
use Rattle.cypher_syntax.specs.declared.tree.pattern.NodePattern.{NodePattern}
use Rattle.cypher_syntax.specs.declared.tree.pattern.Pattern.{Pattern}
use Rattle.expr_eval.specs.declared.refused.EvalRefused.TheVariants.{TypeFault}
use Rattle.expr_eval.specs.Outcome.{Outcome, and_then}
use Rattle.expr_eval.specs.Row.{Row}
use Rattle.write_ops.specs.declared.creating.Created.{Created}
use Rattle.write_ops.specs.declared.creating.Walk.{Walk}
use Rattle.write_ops.specs.declared.placing.Place.{Place}
use Rattle.write_ops.specs.declared.planned.Entity.{Entity}
use Rattle.write_ops.specs.declared.planned.Entity.TheVariants.{Vertex, Edge}
use Rattle.write_ops.specs.declared.planned.Pick.{Pick}
use Rattle.write_ops.specs.declared.planned.Pick.TheVariants.{Made}
use Rattle.write_ops.specs.declared.planned.PlannedOp.{PlannedOp}
use Rattle.write_ops.specs.declared.planned.PlannedOp.TheVariants as op
use Rattle.write_ops.specs.Over.{over}
use Rattle.write_ops.specs.Placing.{Names, place_of, behind, vertex_name, with_names}
use Rattle.write_ops.specs.Setting.{Ops}
use Rattle.write_ops.specs.Writing.{is_null, kept_value, prop_op, label_op}

-- A new object gets a property, unless its value is null.
abbrev pub with_value : Entity → List ℕ → Value → Ops → Ops
with_value x key v ops = if is_null v then ops else ops ++ prop_op x key v ∷ []

abbrev pub with_entry : Graph → Row → Entity → Ops → List ℕ × Expr → Outcome Ops
with_entry g row x ops entry =
    and_then (kept_value g row entry.1) (λ v. Ok (with_value x entry.0 v ops))

abbrev pub with_map : Graph → Row → Entity → Ops → Option (List (List ℕ × Expr)) → Outcome Ops
with_map g row x ops None = Ok ops
with_map g row x ops (Some entries) = over (with_entry g row x) ops entries

abbrev pub created_vertex : Pick → List (List ℕ) → Ops → Ops
created_vertex at labels ops = (ops ++ op.CreateVertex ∷ []) ++ map (label_op true at) labels

-- a vertex, its labels and its properties in written order
abbrev pub new_vertex : Graph → Row → Ops → Pick → NodePattern → Outcome Ops
new_vertex g row ops at node =
    with_map g row (Vertex at) (created_vertex at node.labels ops) node.map

abbrev pub node_ops : Graph → Row → Ops → Place → NodePattern → Outcome Ops
node_ops g row ops p node = if p.is_new then new_vertex g row ops p.at node else Ok ops

-- An edge goes as it is written.
abbrev pub create_edge : Arrow → Pick → Pick → List ℕ → PlannedOp
create_edge Left here there kind = op.CreateEdge there kind here
create_edge arrow here there kind = op.CreateEdge here kind there

abbrev pub with_edge : Arrow → Pick → Pick → List ℕ → Ops → Ops
with_edge arrow here there kind ops = ops ++ create_edge arrow here there kind ∷ []

-- the one kind of a new edge; without one there is no edge, which no text asks for
abbrev pub kind_of : List (List ℕ) → Outcome (List ℕ)
kind_of [] = Err TypeFault
kind_of (kind ∷ kinds) = Ok kind

-- an edge and its properties in written order
abbrev pub edge_ops : Graph → Row → Ops → Pick → Pick → Pick → EdgePattern → Outcome Ops
edge_ops g row ops at here there edge =
    and_then (kind_of edge.kinds) (λ kind. with_map g row (Edge at) (with_edge edge.arrow here there kind ops) edge.map)

-- the vertex, and then the edge that leads to it
abbrev pub hop_ops : Graph → Row → Ops → ℕ → Pick → Place → EdgePattern → NodePattern → Outcome Ops
hop_ops g row ops number here p edge node =
    and_then (node_ops g row ops p node) (λ ops. edge_ops g row ops (Made number) here p.at edge)

-- where a pattern stands behind its first vertex
abbrev pub started : ℕ → Names → Place → NodePattern → Ops → Walk
started made names p node ops = record {
  ops = ops;
  made = behind p made;
  names = names ++ vertex_name p node.name;
  here = p.at;
}

abbrev pub start : Graph → Row → Walk → NodePattern → Outcome Walk
start g row walk node =
    and_then (place_of g row walk.names walk.made node.name) (λ p.
    and_then (node_ops g row walk.ops p node) (λ ops.
    Ok (started walk.made walk.names p node ops)))

-- and behind an edge with the vertex behind it
abbrev pub went : ℕ → Names → Place → EdgePattern → NodePattern → Ops → Walk
went number names p edge node ops = record {
  ops = ops;
  made = number + 1;
  names = with_names p number edge.name node.name names;
  here = p.at;
}

abbrev pub hop : Graph → Row → Walk → EdgePattern × NodePattern → Outcome Walk
hop g row walk step =
    and_then (place_of g row walk.names walk.made step.1.name) (λ p.
    and_then (hop_ops g row walk.ops (behind p walk.made) walk.here p step.0 step.1) (λ ops.
    Ok (went (behind p walk.made) walk.names p step.0 step.1 ops)))

abbrev pub pattern : Graph → Row → Walk → Pattern → Outcome Walk
pattern g row walk p = and_then (start g row walk p.first) (λ walk. over (hop g row) walk p.steps)

-- A row begins without names of its own.
abbrev pub row_start : ℕ → Ops → Walk
row_start made ops = record { ops = ops; made = made; names = []; here = Made made }

abbrev pub row_end : List Names → Walk → Created
row_end rows walk = record { ops = walk.ops; made = walk.made; names = rows ++ walk.names ∷ [] }

abbrev pub create_row : Graph → List Pattern → Created → Row → Outcome Created
create_row g patterns created row =
    and_then (over (pattern g row) (row_start created.made created.ops) patterns) (λ walk. Ok (row_end created.names walk))

abbrev pub nothing_created : Created
nothing_created = record { ops = []; made = 0; names = [] }

abbrev pub create_of : Graph → List Pattern → List Row → Outcome Created
create_of g patterns table = over (create_row g patterns) nothing_created table
