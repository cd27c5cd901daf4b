-- To mean the same, or both to be nothing, is an equivalence where to mean the same is one.
use Rattle.std.proofs.Common.{Option, Some, None}
use Rattle.tt_intervals.specs.Runs.{MeanSame}

module _ {T : Type 0} (Same : T → T → Type 0) where
  pub mean_reflexive : ((a : T) → Same a a) → (o : Option T) → MeanSame Same o o
  mean_reflexive reflexive None = tt
  mean_reflexive reflexive (Some a) = reflexive a

  pub mean_symmetric : ((a b : T) → Same a b → Same b a) → (o p : Option T) → MeanSame Same o p → MeanSame Same p o
  mean_symmetric symmetric None None h = tt
  mean_symmetric symmetric None (Some b) h = h
  mean_symmetric symmetric (Some a) None h = h
  mean_symmetric symmetric (Some a) (Some b) h = symmetric a b h

  pub mean_transitive : ((a b c : T) → Same a b → Same b c → Same a c) → (o p q : Option T) → MeanSame Same o p → MeanSame Same p q → MeanSame Same o q
  mean_transitive transitive None None None h k = tt
  mean_transitive transitive None None (Some c) h k = k
  mean_transitive transitive None (Some b) q h k = absurd h
  mean_transitive transitive (Some a) None q h k = absurd h
  mean_transitive transitive (Some a) (Some b) None h k = k
  mean_transitive transitive (Some a) (Some b) (Some c) h k = transitive a b c h k
