-- The lemmas by which a row of a grammar is read, to be searched; `keep_first` and `pair` are found by that of `joined_values`.
use Rattle.ir_terminals.proofs.OnPhraseRows.Plain.{reads_nothing, reads_one, reads_mapped, reads_labelled}
use Rattle.ir_terminals.proofs.OnPhraseRows.Chain.{reads_both, reads_second}
use Rattle.ir_terminals.proofs.OnPhraseRows.Alt.{reads_alt, reads_optional}
use Rattle.ir_terminals.proofs.OnPhraseRows.Repeated.{reads_many, reads_separated}

pub ruleset row_rules = (reads_nothing, reads_one, reads_mapped, reads_both, reads_second, reads_alt, reads_many, reads_labelled, reads_separated, reads_optional)
