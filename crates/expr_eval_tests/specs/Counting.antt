-- A reader over two lists stands for the graph of these, where it is coherent, and reading leaves them.
use Rattle.std.proofs.Common.{◌≡◌, refl, ◌∙◌}
use Rattle.graph_record.specs.Graph.{Graph, IsCoherent}
use Rattle.expr_eval_tests.specs.declared.counting.CountingReader.{CountingReader}

pub record HasParts (r : CountingReader) (g : Graph) : Type 0 where
  pub vertices : g.vertices ≡ r.vertices
  pub edges : g.edges ≡ r.edges
  pub coherent : IsCoherent g

pub record SameParts (old new : CountingReader) : Type 0 where
  pub vertices : new.vertices ≡ old.vertices
  pub edges : new.edges ≡ old.edges

pub same_itself : (r : CountingReader) → SameParts r r
same_itself r = record { vertices = refl; edges = refl }

pub same_onward : (a b c : CountingReader) → SameParts a b → SameParts b c → SameParts a c
same_onward a b c h k = record { vertices = k.vertices ∙ h.vertices; edges = k.edges ∙ h.edges }
