use Rattle.std.proofs.Common.{◌≡◌, ◌++◌, drop, option_map}
use Rattle.serde_json.specs.View.{items_view}
use Rattle.sc_codefile.specs.Value.{all_of}
use Rattle.sc_codefile.proofs.lists.all_of.Given as goal

-- what is left goes behind what was found
abbrev pub invariant-loop-value : goal.invariant-loop-value
invariant-loop-value g l =
    all_of g.T.Shape.shape (items_view l.values) ≡ option_map (λ xs. l.items.items ++ xs) (all_of g.T.Shape.shape (items_view (drop l.value-index l.values)))
