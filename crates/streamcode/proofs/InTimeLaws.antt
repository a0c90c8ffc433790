-- When a run gives what is due.
use Rattle.std.proofs.Common.{◌≡◌, ℕ, List, ◌∷◌, ◌++◌, length, take, Some, Ok, sym, ap, ◌∙◌, subst, arith, length-append}
use Rattle.std.proofs.lemmas.List.{take_all}
use Rattle.sc_outside.specs.Cabinet.{CabinetTold, IsStartOfFile}
use Rattle.sc_outside.specs.Ends.{Job}
use Rattle.sc_outside.specs.Port.{Told}
use Rattle.sc_outside.specs.declared.journal.Move.{Move}
use Rattle.sc_outside.specs.declared.journal.Move.TheVariants.{Read}
use Rattle.sc_code.specs.declared.code.CodeFile.{CodeFile}
use Rattle.sc_codefile.specs.Reading.{code_reading}
use Rattle.sc_repair.specs.Prompt.{IsPrompt}
use Rattle.streamcode.specs.declared.end.End.{End}
use Rattle.streamcode.specs.declared.end.Role.TheVariants.{Code}
use Rattle.streamcode.specs.Files.{Came}
use Rattle.streamcode.specs.Plans.{most_fetched}
use Rattle.streamcode.specs.RepairLaws.{IsCodeFileOf}

-- a port that wasn't touched
no_more : (journal moves : List Move) → journal ≡ journal ++ moves → length moves ≡ 0
no_more journal moves same = let counts : length journal ≡ length (journal ++ moves) = ap length same in omega (arith, counts, length-append journal moves)

none_among : (before after moves : List Move) (taken : ℕ) → length moves ≡ 0 → before ++ Read taken ∷ after ≡ moves → ⊥
none_among before after moves taken none parts =
    let counts : length (before ++ Read taken ∷ after) ≡ length moves = ap length parts in
    omega (arith, none, counts, length-append before (Read taken ∷ after))

pub untouched-prompt : (job : Job End) (told : Told) → IsPrompt job told told
untouched-prompt job told = λ journal moves first rest old new left before after taken parts some beyond.
    let both : Some journal ≡ Some (journal ++ moves) = sym old ∙ new in
    let same : journal ≡ journal ++ moves = cc in
    absurd (none_among before after moves taken (no_more journal moves same) parts)

-- the file that came is the one that is there
pub came-same : (old mid : CabinetTold) (name : List ℕ) (files : List (List ℕ × List ℕ)) (file other : CodeFile) → old.files ≡ Some files → IsCodeFileOf files name file
    → Came Code code_reading old mid name (Ok other) → other ≡ file
came-same old mid name files file other there h (bytes, fetched, short, read) =
    let start : IsStartOfFile (Some files) name most_fetched bytes = subst (λ o. IsStartOfFile o name most_fetched bytes) there fetched.start in
    let found : Some h.bytes ≡ Some start.0 = sym h.there ∙ start.1 in
    let whole : h.bytes ≡ start.0 = cc in
    let all : bytes ≡ h.bytes = start.2 ∙ ap (take most_fetched) (sym whole) ∙ take_all most_fetched h.bytes (omega (arith, h.short)) in
    let readings : Ok other ≡ Ok file = sym read ∙ ap code_reading all ∙ h.is in
    cc
