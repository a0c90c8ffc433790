-- What the steps of repairing do to a port, to the bytes that wait, and to what is kept. For private contracts alone.
use Rattle.std.specs.Prelude.{◌≡◌, ℕ, ◌+◌, ◌<◌, ◌≤◌, Bool, true, false, List, [], ◌++◌, length, take, position, count_by, is_none, Option, Some, None, Result, Ok, Err}
use Rattle.sc_outside.specs.declared.error.Failed.{Failed}
use Rattle.sc_outside.specs.Port.{Told}
use Rattle.sc_slots.specs.ProtectSteps.{GivesMore, LosesMore}
use Rattle.sc_slots.specs.Taken.{Taken, one_past, known_end}
use Rattle.sc_repair.specs.declared.put.Next.{Next}
use Rattle.sc_repair.specs.declared.put.Next.TheVariants.{Ended, More, Bad}
use Rattle.sc_repair.specs.Readings.{block_reading, frame_text, is_bad}
use Rattle.sc_repair.specs.Repairer.{Repairer}
use Rattle.sc_repair.specs.Repairing.{values_text, is_bad_value}
use Rattle.sc_repair.specs.Stands.{Stands}
use Rattle.sc_repair.specs.Values.{put_values, outcomes}

-- ---- bytes that wait

-- what putting more bytes behind those that wait answers
abbrev pub PutsMore : {U : Type 0} → Told → Told → List ℕ → List ℕ → List ℕ → Result U Failed → Type 0
PutsMore old new more before after (Ok u) = GivesMore old new more before after
PutsMore old new more before after (Err e) = LosesMore old new more before

-- what putting what a block writes answers: false where it is neither zero nor a frame
abbrev pub PutsBlock : Told → Told → List ℕ → List ℕ → List ℕ → Result Bool Failed → Type 0
PutsBlock old new block before after (Ok true) =
    (is_bad (block_reading block) ≡ false) × GivesMore old new (frame_text (block_reading block)) before after
PutsBlock old new block before after (Ok false) = (is_bad (block_reading block) ≡ true) × GivesMore old new [] before after
PutsBlock old new block before after (Err e) =
    (is_bad (block_reading block) ≡ false) × LosesMore old new (frame_text (block_reading block)) before

-- ---- values

-- the values that can be put out: once slots are passed those settled, and at the input's end what is left of all
abbrev pub values_when : Bool → Repairer → List (Taken ℕ) → List (Option (List (List ℕ)))
values_when false s taken = put_values s.k s.m s.deadline taken s.passed
values_when true s taken = outcomes s.k s.m s.deadline taken (one_past taken)

abbrev pub values_by : Repairer → List (Taken ℕ) → List (Option (List (List ℕ)))
values_by s taken = values_when s.finished s taken

-- the missed slots below this are counted: all, and at the input's end those below the known end
abbrev pub end_when : Bool → List (Taken ℕ) → ℕ
end_when false taken = 4000000
end_when true taken = known_end taken

abbrev pub end_of : Repairer → List (Taken ℕ) → ℕ
end_of s taken = end_when s.finished taken

-- these values are put out: none is bad, so many of them below the end are missed, and this is what they write
pub record Done (values : List (Option (List (List ℕ)))) (end missed : ℕ) (text : List ℕ) : Type 0 where
  pub good : position is_bad_value values ≡ None
  pub counted : missed ≡ count_by is_none (take end values)
  pub is_text : text ≡ values_text values

-- more was put out: the first n values are
pub record PutsTo (values : List (Option (List (List ℕ)))) (end n : ℕ) (old new : Told) (before after : List ℕ) (missed : ℕ) (text : List ℕ) : Type 0 where
  pub more : List ℕ
  pub gives : GivesMore old new more before after
  pub within : n ≤ length values
  pub done : Done (take n values) end missed (text ++ more)

-- more was put out: all values are
pub record PutsAll (values : List (Option (List (List ℕ)))) (end : ℕ) (old new : Told) (before after : List ℕ) (missed : ℕ) (text : List ℕ) : Type 0 where
  pub more : List ℕ
  pub gives : GivesMore old new more before after
  pub done : Done values end missed (text ++ more)

-- more was put out, up to the first bad value, which is that of slot t
pub record Halts (values : List (Option (List (List ℕ)))) (old new : Told) (before after text : List ℕ) (t : ℕ) : Type 0 where
  pub more : List ℕ
  pub gives : GivesMore old new more before after
  pub first : position is_bad_value values ≡ Some t
  pub is_text : text ++ more ≡ values_text (take t values)

-- a write failed within the first n values
pub record LosesTo (values : List (Option (List (List ℕ)))) (old new : Told) (before text : List ℕ) : Type 0 where
  pub more : List ℕ
  pub loses : LosesMore old new more before
  pub n : ℕ
  pub within : n ≤ length values
  pub good : position is_bad_value (take n values) ≡ None
  pub is_text : text ++ more ≡ values_text (take n values)

-- what putting out the next value answers
abbrev pub NextGives : List (Option (List (List ℕ))) → ℕ → ℕ → Told → Told → List ℕ → List ℕ → ℕ → List ℕ → Result Next Failed → Type 0
NextGives values end n old new before after missed text (Ok Ended) = PutsAll values end old new before after missed text
NextGives values end n old new before after missed text (Ok More) = PutsTo values end n old new before after missed text
NextGives values end n old new before after missed text (Ok (Bad t)) = Halts values old new before after text t
NextGives values end n old new before after missed text (Err e) = LosesTo values old new before text

-- while the input goes on, this is the number of all values that are settled
abbrev pub IsAllOf : Repairer → ℕ → Type 0
IsAllOf s n = s.finished ≡ false → (taken : List (Taken ℕ)) → Stands s taken → n ≡ length (put_values s.k s.m s.deadline taken s.passed)

-- and how far it is then
abbrev pub NextCounts : Repairer → Repairer → Result Next Failed → Type 0
NextCounts old new (Ok Ended) =
    (new ≡ record old { block = new.block }) × (old.finished ≡ false → old.passed ≤ old.next + old.deadline)
    × IsAllOf old old.next
NextCounts old new (Ok More) =
    (new ≡ record old { next = new.next; block = new.block }) × (old.next < new.next) × (new.next ≤ 4000000)
NextCounts old new (Ok (Bad t)) = Unit {0}
NextCounts old new (Err e) = Unit {0}

-- what putting out all values answers: the slot of the first bad one
abbrev pub AllGives : List (Option (List (List ℕ))) → ℕ → Told → Told → List ℕ → List ℕ → ℕ → List ℕ → Result (Option ℕ) Failed → Type 0
AllGives values end old new before after missed text (Ok None) = PutsAll values end old new before after missed text
AllGives values end old new before after missed text (Ok (Some t)) = Halts values old new before after text t
AllGives values end old new before after missed text (Err e) = LosesTo values old new before text

abbrev pub AllCounts : Repairer → Repairer → Result (Option ℕ) Failed → Type 0
AllCounts old new (Ok None) =
    (new ≡ record old { next = new.next; block = new.block })
    × (old.finished ≡ false → old.passed ≤ new.next + old.deadline) × IsAllOf old new.next
AllCounts old new (Ok (Some t)) = Unit {0}
AllCounts old new (Err e) = Unit {0}
