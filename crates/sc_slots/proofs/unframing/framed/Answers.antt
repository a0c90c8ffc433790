use Rattle.std.proofs.Common.{◌≡◌, ◌<◌, ◌≤◌, ◌-◌, ℕ, List, length, take, drop, sym, ap, ◌∙◌, subst, arith}
use Rattle.std.proofs.lemmas.List.{take_rest}
use Rattle.sc_rtp.proofs.ViewSteps.{are_bytes}
use Rattle.sc_slots.specs.Frame.{IsBlank, IsFrame}
use Rattle.sc_slots.proofs.FrameLaws.{no_frame-empty, no_frame-long, no_frame-tail, frame-read}
use Rattle.sc_slots.proofs.unframing.framed.Goals as goal

-- a slice of the bytes behind the front, and a slice of that
behind : (block : List ℕ) (n : ℕ) → let body : List ℕ = take (length block - 6) (drop 6 block) in take (length body - n) (drop n body) ≡ drop n (drop 6 block)
behind block n = take_rest (take (length block - 6) (drop 6 block)) n ∙ ap (λ (l : List ℕ). drop n l) (take_rest block 6)

pub returns-then-len-eq0-clause-none : goal.returns-then-len-eq0-clause-none
returns-then-len-eq0-clause-none c = λ offset packet f.
    no_frame-empty c.args.block.now c.from-len.result offset packet (c.from-len.ensures ∙ c.from_be_bytes.ensures) c.if-len-eq0.true f

pub returns-then-body-len-clause-none : goal.returns-then-body-len-clause-none
returns-then-body-len-clause-none c = λ offset packet f.
    no_frame-long c.args.block.now c.from-len.result offset packet (c.from-len.ensures ∙ c.from_be_bytes.ensures)
    (subst (λ (l : List ℕ). length l < c.from-len.result) (take_rest c.args.block.now 6) c.if-body-len.true) f

pub returns-then-not-is_blank-clause-none : goal.returns-then-not-is_blank-clause-none
returns-then-not-is_blank-clause-none c = λ offset packet f.
    no_frame-tail c.args.block.now c.from-len.result offset packet (c.from-len.ensures ∙ c.from_be_bytes.ensures)
    (subst (λ (l : List ℕ). IsBlank l → ⊥) (behind c.args.block.now c.from-len.result) (rw c.if-not-is_blank.true at c.is_blank.ensures)) f

pub returns-clause-some : goal.returns-clause-some
returns-clause-some c =
    let block = c.args.block.now in
    let n = c.from-len.result in
    let rest = take_rest block 6 in
    let tail : IsBlank (drop n (drop 6 block)) = subst IsBlank (behind block n) (rw c.if-not-is_blank.false at c.is_blank.ensures) in
    subst (λ (l : List ℕ). IsFrame block c.from_be_bytes-offset.result (take n l)) (sym rest)
    (frame-read block n c.from_be_bytes-offset.result (are_bytes block c.type_inv.block) (omega (arith, c.if-block-le-FRONT.false))
    (c.from-len.ensures ∙ c.from_be_bytes.ensures) c.from_be_bytes-offset.ensures c.if-len-eq0.false
    (subst (λ (l : List ℕ). n ≤ length l) rest c.if-body-len.false) tail)
