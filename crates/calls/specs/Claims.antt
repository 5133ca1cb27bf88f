-- One theorem of all claims: a field for each claim of the repository. proofs/Claims.antt proves it, so that no claim
-- is listed here without its proof. A group gives the file of specs/ that says what its claims are; those of `calls`
-- stand in this crate. A claim that is added anywhere gets its field here. Assumes nothing.
use Rattle.calls.specs.Demanded.{Demanded, DemandedOfExports, OneRecord}
use Rattle.calls.specs.DemandedOfLists.{DemandedOfLists}
use Rattle.calls.specs.DemandedOfRegisters.{DemandedOfRegisters}
use Rattle.calls.specs.DemandedOfShapes.{DemandedOfShapes}
use Rattle.calls.specs.Calls.{Calls, Exports}
use Rattle.calls.specs.Functions.{thompson}
use Rattle.claims.specs.Demands.{Demand1, Demand2, Demand3}
use Rattle.claims.specs.Exports.{ExportsAnswerAsCalls}
use Rattle.claims.specs.Records.{RecordsOfForms, RecordsAreRead, RecordHasOneForm, RecordsAreAccepted}
use Rattle.claims.specs.Forms.{FormKeepsMap, EqualFormsAreJoined, EqualFormsAreOneMap, ReducedFormIsUnique}
use Rattle.claims.specs.Forms.{TheFormOfWord, FormIsSmall}
use Rattle.claims.specs.Sentences.{InverseUndoes, EndsFixed, ZerosIgnored, GeneratorsConjugate, PresentationsAgree}
use Rattle.claims.specs.Sentences.{JoinedIsOneMap, StepKeepsElement, StepCanBeTaken, ReducedIsNoStep, StepsEnd}
use Rattle.claims.specs.Sentences.{LettersAtEnds, BehindIsInFront, InverseExchanges, OnlyIdentityIsItsInverse}
use Rattle.claims.specs.Trees.{LeavesAndCarets, PairOfForm, EveryPairIsForm, NoRedundantCaret, PairIsMap, ShapesOfTrees}
use Rattle.claims.specs.Trees.{KindsOfCarets, SymmetricWeights, LengthIsSum}
use Rattle.claims.specs.Lengths.{LengthIsLeast, LetterChangesByOne, SomeLetterLowers, ZeroIsIdentity, LengthIsReached}
use Rattle.claims.specs.Lengths.{NoShorterWord, FewCarets, LabelsGiveLength, NarrowSum}
use Rattle.claims.specs.Lengths.{OneReading, LabelsOfCarets, TableOne, LabelLengthIsSum, SecondEngine}
use Rattle.claims.specs.Spellings.{DeletingEnds, FormsAreSpelled, SpellingHasLength}
use Rattle.claims.specs.Texts.{DecimalsAreNumerals, TextsAreTokens, TextsAreLetters}
use Rattle.claims.specs.Lists.{ListIsCalls, SomeCalls, LastWordFills, ListRecordsJoined}
use Rattle.claims.specs.Registers.{RegistersAreRead, EntersWords, OnlyNewBytes, StoredIsSmaller}
use Rattle.claims.specs.Registers.{History, SameEntry, Charges}
use Rattle.claims.specs.Packed.{ShapesGiven, PackUnpack, PackedIsTree, GrownIsPacked, BothByShape}
use Rattle.claims.specs.Receipts.{LinesOfBytes, LinesInParts, ServesMetLines, CutKeepsReceipt, ReceiptsOfInput}
use Rattle.commands.specs.Parts.{CutKeepsItem, CutKeepsTwoWords, CutKeepsRecord, HexInParts}
use Rattle.worked.specs.Worked.{Worked, WorkedForms, WorkedRegisters, WorkedVerdicts}
use Rattle.worked.specs.Shapes.{WorkedShapes}

pub record Claims : Type 2 where
  -- The demands, said of the functions and of the exports: calls, Demanded.
  pub demanded : Demanded
  pub demanded_of_exports : DemandedOfExports thompson
  pub one_record : OneRecord thompson
  -- The same of the list call: calls, DemandedOfLists.
  pub demanded_of_lists : DemandedOfLists thompson
  -- The same of the register's calls: calls, DemandedOfRegisters.
  pub demanded_of_registers : DemandedOfRegisters thompson
  -- The same of the calls on packed shapes: calls, DemandedOfShapes.
  pub demanded_of_shapes : DemandedOfShapes thompson
  -- That the contracts of the claims are those of the functions: calls, Calls.
  pub calls : Calls
  pub exports : Exports thompson
  -- The demands over the contracts: claims, Demands.
  pub demand1 : Demand1
  pub demand2 : Demand2
  pub demand3 : Demand3
  -- The exports answer as the calls: claims, Exports.
  pub exports_answer_as_calls : ExportsAnswerAsCalls
  -- Records: claims, Records.
  pub records_of_forms : RecordsOfForms
  pub records_are_read : RecordsAreRead
  pub record_has_one_form : RecordHasOneForm
  pub records_are_accepted : RecordsAreAccepted
  -- Words and their forms: claims, Forms.
  pub form_keeps_map : FormKeepsMap
  pub equal_forms_are_joined : EqualFormsAreJoined
  pub equal_forms_are_one_map : EqualFormsAreOneMap
  pub reduced_form_is_unique : ReducedFormIsUnique
  pub the_form_of_word : TheFormOfWord
  pub form_is_small : FormIsSmall
  -- Letters, maps, generators, reducing: claims, Sentences.
  pub inverse_undoes : InverseUndoes
  pub ends_fixed : EndsFixed
  pub zeros_ignored : ZerosIgnored
  pub generators_conjugate : GeneratorsConjugate
  pub presentations_agree : PresentationsAgree
  pub joined_is_one_map : JoinedIsOneMap
  pub step_keeps_element : StepKeepsElement
  pub step_can_be_taken : StepCanBeTaken
  pub reduced_is_no_step : ReducedIsNoStep
  pub steps_end : StepsEnd
  pub letters_at_ends : LettersAtEnds
  pub behind_is_in_front : BehindIsInFront
  pub inverse_exchanges : InverseExchanges
  pub only_identity_is_its_inverse : OnlyIdentityIsItsInverse
  -- Trees, shapes, carets and weights: claims, Trees.
  pub leaves-and-carets : LeavesAndCarets
  pub pair_of_form : PairOfForm
  pub every_pair_is_form : EveryPairIsForm
  pub no_redundant_caret : NoRedundantCaret
  pub pair_is_map : PairIsMap
  pub shapes_of_trees : ShapesOfTrees
  pub kinds_of_carets : KindsOfCarets
  pub symmetric_weights : SymmetricWeights
  pub length_is_sum : LengthIsSum
  -- The length is the least number of letters, 16 bits hold it, and Table 1 gives it: claims, Lengths.
  pub length_is_least : LengthIsLeast
  pub letter_changes_by_one : LetterChangesByOne
  pub some_letter_lowers : SomeLetterLowers
  pub zero_is_identity : ZeroIsIdentity
  pub length_is_reached : LengthIsReached
  pub no_shorter_word : NoShorterWord
  pub few_carets : FewCarets
  pub labels_give_length : LabelsGiveLength
  pub narrow_sum : NarrowSum
  pub one_reading : OneReading
  pub labels_of_carets : LabelsOfCarets
  pub table_one : TableOne
  pub label_length_is_sum : LabelLengthIsSum
  pub second_engine : SecondEngine
  -- Spellings: claims, Spellings.
  pub deleting_ends : DeletingEnds
  pub forms_are_spelled : FormsAreSpelled
  pub spelling_has_length : SpellingHasLength
  -- Subscript notation: claims, Texts.
  pub decimals_are_numerals : DecimalsAreNumerals
  pub texts_are_tokens : TextsAreTokens
  pub texts_are_letters : TextsAreLetters
  -- Many words in one call: claims, Lists.
  pub list_is_calls : ListIsCalls
  pub some_calls : SomeCalls
  pub last_word_fills : LastWordFills
  pub list_records_joined : ListRecordsJoined
  -- The register of first filings: claims, Registers.
  pub registers_are_read : RegistersAreRead
  pub enters_words : EntersWords
  pub only_new_bytes : OnlyNewBytes
  pub stored_is_smaller : StoredIsSmaller
  pub history : History
  pub same_entry : SameEntry
  pub charges : Charges
  -- Packed shapes: claims, Packed.
  pub shapes_given : ShapesGiven
  pub pack_unpack : PackUnpack
  pub packed_is_tree : PackedIsTree
  pub grown_is_packed : GrownIsPacked
  pub both_by_shape : BothByShape
  -- Receipts: claims, Receipts.
  pub lines_of_bytes : LinesOfBytes
  pub lines_in_parts : LinesInParts
  pub serves_met_lines : ServesMetLines
  pub cut_keeps_receipt : CutKeepsReceipt
  pub receipts_of_input : ReceiptsOfInput
  -- Lines of the command, kept in fixed memory: commands, Parts.
  pub cut_keeps_item : CutKeepsItem
  pub cut_keeps_two_words : CutKeepsTwoWords
  pub cut_keeps_record : CutKeepsRecord
  pub hex_in_parts : HexInParts
  -- Worked examples: worked, Worked and Shapes.
  pub worked : Worked
  pub worked_forms : WorkedForms
  pub worked_registers : WorkedRegisters
  pub worked_verdicts : WorkedVerdicts
  pub worked_shapes : WorkedShapes
