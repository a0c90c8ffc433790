use Rattle.std.proofs.Common.{◌≡◌, not, map}
use Rattle.std.specs.List.{list_any}
use Rattle.serde_json.specs.View.{members_view}
use Rattle.sc_codefile.specs.Value.{is_among, member_keys}
use Rattle.sc_codefile.proofs.numbers.has_other_key.Given as goal

abbrev pub invariant-loop-key : goal.invariant-loop-key
invariant-loop-key l =
    list_any (λ k. not (is_among (map (λ key. key.now) l.keys) k)) (member_keys (members_view l.members.entries))
    ≡ list_any (λ k. not (is_among (map (λ key. key.now) l.keys) k)) (member_keys (members_view l.key-iterator))
