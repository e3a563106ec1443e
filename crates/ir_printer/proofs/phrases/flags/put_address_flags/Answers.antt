use Rattle.std.proofs.Common.{[], ◌∷◌}
use Rattle.ir_tables.specs.declared.flag.Flag.TheVariants.{Nuw, Inbounds, Nusw}
use Rattle.ir_printer.proofs.OnPhrases.FlagWords.{flag_then, no_flag}
use Rattle.ir_printer.proofs.phrases.flags.put_address_flags.Goals as goal

pub returns : goal.returns
returns g c =
    let set = c.args.flags in
    flag_then set Inbounds (Nusw ∷ Nuw ∷ []) c.put_flag.ensures
    (flag_then set Nusw (Nuw ∷ []) c.put_flag-2.ensures
    (flag_then set Nuw [] c.put_flag-3.ensures (no_flag set _)))
