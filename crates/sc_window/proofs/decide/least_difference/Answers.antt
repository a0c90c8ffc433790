use Rattle.std.proofs.Common.{◌*◌, ◌∙◌, ℕ, List, map, length, sym, ap, ap₂}
use Rattle.sc_channel.specs.Flags.{set_count}
use Rattle.sc_echelon.specs.Kernel.{IsKernelVector, IsLeastBelow}
use Rattle.sc_window.specs.Window.{spelled}
use Rattle.sc_window.proofs.OrderSteps.{decided_from_no_least, least_difference_of}
use Rattle.sc_window.proofs.decide.least_difference.Goals as goal

pub returns-in-None-clause-least : goal.returns-in-None-clause-least
returns-in-None-clause-least g c =
    let F = g.F.Field in
    let r = c.in_ok-reduced.reduced in
    let K = IsKernelVector F.IsElement F.zero F.add F.mul r.cols r.rows in
    let none = rw c.in-None.is at c.in_ok-least_kernel.ensures in
    decided_from_no_least g.met.F.Field.field g.met.F.Field.exact F.number c.args.code.now c.args.class.now c.requires.first_lost K c.in_ok-reduced.ensures.kernel
    (rw c.k.ensures.number at none)

pub stream_of-requires-clause-width : goal.stream_of-requires-clause-width
stream_of-requires-clause-width g c =
    let least = rw c.in-Some.is at c.in_ok-least_kernel.ensures in
    ap length c.as_slice.ensures.value ∙ least.belongs.width ∙ c.in_ok-reduced.ensures.cols ∙ ap (λ (k : ℕ). k * set_count c.args.class.now) (sym c.k-in-Some.ensures.number)

pub returns-clause-least : goal.returns-clause-least
returns-clause-least g c =
    let F = g.F.Field in
    let r = c.in_ok-reduced.reduced in
    let code = c.args.code.now in
    let class = c.args.class.now in
    let u = c.in-Some.vector.items in
    let K = IsKernelVector F.IsElement F.zero F.add F.mul r.cols r.rows in
    let some = rw c.in-Some.is at c.in_ok-least_kernel.ensures in
    let least : IsLeastBelow F.zero F.number K code.k u = rw c.k.ensures.number at some in
    record {
      stream = spelled F.zero code.k class u;
      is_least = least_difference_of g.met.F.Field.field g.met.F.Field.exact F.number code class c.requires.first_lost K c.in_ok-reduced.ensures.kernel u least;
      are_numbers =
          c.in_ok-stream-in-Some.ensures.spelled
          ∙ ap₂ (λ (k : ℕ) (v : List g.row.F.Denot). map (map F.number) (spelled F.zero k class v)) c.k-in-Some.ensures.number c.as_slice.ensures.value;
    }
