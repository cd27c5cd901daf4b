-- What a call over a reader of a graph answers. A reader stands for graphs; what it is asked, each of them answers alike.
use Rattle.std.specs.Prelude.{◌≡◌}
use Rattle.graph_record.specs.Graph.{Graph}

module _ {S : Type 0} (stands : S → Graph → Type 0) (follows : S → S → Type 0) where
  -- What is said of the answer holds by every graph that the reader stood for. It still stands for each, and has only read.
  pub record Reads {R : Type 0} (says : Graph → R → Type 0) (old new : S) (result : R) : Type 0 where
    pub answers : (g : Graph) → stands old g → says g result
    pub stays : (g : Graph) → stands old g → stands new g
    pub reads : follows old new

  -- On the way: what the whole means to every graph that the reader stood for at entry is what is left to compute.
  pub record Continues {A : Type 0} (whole left : Graph → A) (old now : S) : Type 0 where
    pub same : (g : Graph) → stands old g → whole g ≡ left g
    pub stays : (g : Graph) → stands old g → stands now g
    pub reads : follows old now
