use Rattle.std.proofs.Common.{◌≡◌, Some, slice_get, [], ◌∷◌, ◌++◌, drop, length, sym, ap, ◌∙◌}
use Rattle.sc_code.specs.Ring.{Ring, blocks_of}
use Rattle.sc_code.proofs.RingSteps.{pushed}
use Rattle.sc_code.proofs.ring.Ring.push.Goals as goal

pub invariant_of-self : goal.invariant_of-self
invariant_of-self c =
    let s = c.self.inside in
    let first : slice_get c.self.inside.places.items 0 ≡ Some c.in-Some.place = sym (c.in-Some.ensures ∙ c.front.ensures) in
    let p = pushed s.bytes s.places c.push_back.new.self s.size c.in-Some.place c.deref_mut.result.now c.args.block.now c.self.invariant.0 c.self.invariant.1 first c.deref_mut.ensures.value (c.requires ∙ sym (ap (λ r. r.size) c.self.view_is)) c.push_back.ensures.items in
    let full : length c.push_back.new.self.items ≡ c.push_back.new.self.capacity = p.count ∙ c.self.invariant.1 ∙ sym (ap (λ b. b.capacity) c.push_back.ensures.items) in
    rw c.copy_from_slice.ensures.after (p.ring, full)

pub returns-in-Some-clause-blocks : goal.returns-in-Some-clause-blocks
returns-in-Some-clause-blocks c =
    let s = c.self.inside in
    let first : slice_get c.self.inside.places.items 0 ≡ Some c.in-Some.place = sym (c.in-Some.ensures ∙ c.front.ensures) in
    let p = pushed s.bytes s.places c.push_back.new.self s.size c.in-Some.place c.deref_mut.result.now c.args.block.now c.self.invariant.0 c.self.invariant.1 first c.deref_mut.ensures.value (c.requires ∙ sym (ap (λ r. r.size) c.self.view_is)) c.push_back.ensures.items in
    rw c.copy_from_slice.ensures.after (p.blocks ∙ ap (λ (r : Ring). drop 1 (blocks_of r) ++ c.args.block.now ∷ []) c.self.view_is)
