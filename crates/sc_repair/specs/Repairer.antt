-- What a repairer keeps.
use Rattle.std.specs.Prelude.{◌≡◌, ℕ, ◌+◌, ◌-◌, ◌*◌, ◌<◌, ◌≤◌, ◌⊎◌, Bool, true, false, max, List, length, refl}
use Rattle.std.specs.Coded.{Coded, code_by, coded×, coded_ℕ, coded_bool, coded_list}
use Rattle.sc_code.specs.Code.{Code, code_code, IsInRange}
use Rattle.sc_echelon.specs.Knowledge.{Knowledge}
use Rattle.sc_echelon.specs.Kept.{knowledge_code}
use Rattle.sc_repair.specs.Sum.{RowSum, AreSums}

-- The numbers of the code, the deadline and the bytes of a symbol; the first kept slot, how many slots are passed, and the
-- next one to be put out; one above the last taken slot, or 0; the end that is claimed, or else one above the greatest
-- source slot taken, or 0; whether the input is at its end; and what is known of the symbols of the kept slots and of
-- those that find a place behind them. And the block that was put out last, and the code of the start.
pub record Repairer : Type 0 where
  pub k : ℕ
  pub r : ℕ
  pub memory : ℕ
  pub deadline : ℕ
  pub m : ℕ
  pub front : ℕ
  pub passed : ℕ
  pub next : ℕ
  pub past : ℕ
  pub end : ℕ
  pub is_claimed : Bool
  pub finished : Bool
  pub known : Knowledge ℕ
  pub block : List ℕ
  pub own : Code ℕ

-- a repairer is stored as the tuple of its fields
abbrev pub repairer_code : Coded Repairer
repairer_code =
    code_by ((((ℕ × ℕ) × (ℕ × ℕ)) × ((ℕ × ℕ) × (ℕ × ℕ))) × (((ℕ × ℕ) × (Bool × Bool)) × (Knowledge ℕ × (List ℕ × Code ℕ))))
    (coded× (coded× (coded× (coded× coded_ℕ coded_ℕ) (coded× coded_ℕ coded_ℕ)) (coded× (coded× coded_ℕ coded_ℕ) (coded× coded_ℕ coded_ℕ)))
    (coded× (coded× (coded× coded_ℕ coded_ℕ) (coded× coded_bool coded_bool)) (coded× (knowledge_code coded_ℕ) (coded× (coded_list coded_ℕ) (code_code coded_ℕ)))))
    (λ s. ((((s.k, s.r), (s.memory, s.deadline)), ((s.m, s.front), (s.passed, s.next))), (((s.past, s.end), (s.is_claimed, s.finished)), (s.known, (s.block, s.own)))))
    (λ p. record {
      k = p.0.0.0.0;
      r = p.0.0.0.1;
      memory = p.0.0.1.0;
      deadline = p.0.0.1.1;
      m = p.0.1.0.0;
      front = p.0.1.0.1;
      passed = p.0.1.1.0;
      next = p.0.1.1.1;
      past = p.1.0.0.0;
      end = p.1.0.0.1;
      is_claimed = p.1.0.1.0;
      finished = p.1.0.1.1;
      known = p.1.1.0;
      block = p.1.1.1.0;
      own = p.1.1.1.1;
    })
    (λ _. refl)

-- how many slots have a place: as many as a parity or the deadline reaches back, and one more
abbrev pub places_for : ℕ → ℕ → ℕ
places_for memory deadline = max memory deadline + 1

-- the numbers are within this project's limits, the kept slots are few, and there is a column for each of their symbols
pub record IsSound (s : Repairer) : Type 0 where
  pub in_range : IsInRange s.k s.r (s.memory + 1)
  pub deadline_limit : s.deadline ≤ 40
  pub some : 1 ≤ s.m
  pub small : s.k * s.m ≤ 65503
  pub cols : s.known.cols ≡ places_for s.memory s.deadline * s.k
  pub width : s.known.width ≡ s.m
  pub front_put : s.front ≤ s.next
  pub front_reaches : s.front ≤ s.passed - s.memory
  pub in_passed : s.next ≤ s.passed
  pub in_places : s.passed ≤ s.front + places_for s.memory s.deadline
  pub is_near : s.passed ≤ s.next + s.deadline + 1
  pub past_passed : s.past ≤ s.passed
  pub few : s.passed ≤ 4000000
  pub end_limit : s.end ≤ 4000000
  pub block_room : length s.block ≡ s.k * s.m

-- A slot of this number and end byte fits the ends so far: a source slot comes before any claim, the first claim is no less
-- than the source slots taken, and each later claim is the same.
abbrev pub FitsEnd : Bool → ℕ → ℕ → ℕ → Type 0
FitsEnd false least number end = (end ≡ 0) ⊎ ((0 < end) × (least ≤ number + 1 - end))
FitsEnd true known number end = (0 < end) × (number + 1 - end ≡ known)

-- the repairer of these numbers
abbrev pub kept_by : ℕ → ℕ → ℕ → ℕ → ℕ → ℕ → ℕ → ℕ → ℕ → ℕ → Bool → Bool → Knowledge ℕ → List ℕ → Code ℕ → Repairer
kept_by k r memory deadline m front passed next past end is_claimed finished known block own = record {
  k = k;
  r = r;
  memory = memory;
  deadline = deadline;
  m = m;
  front = front;
  passed = passed;
  next = next;
  past = past;
  end = end;
  is_claimed = is_claimed;
  finished = finished;
  known = known;
  block = block;
  own = own;
}

-- The numbers are sound, and there is room for a row. The code has the same numbers, and its parity symbols are prepared.
pub record IsRoomy (s : Repairer) (places : ℕ) (row : List ℕ) (sums : List RowSum) : Type 0 where
  pub sound : IsSound s
  pub place_count : places ≡ places_for s.memory s.deadline
  pub row_room : length row ≡ places * s.k
  pub own_symbols : s.own.k ≡ s.k
  pub own_parities : s.own.r ≡ s.r
  pub own_lags : length s.own.lags ≡ s.memory + 1
  pub are_sums : AreSums s.own s.m s.own.r sums
