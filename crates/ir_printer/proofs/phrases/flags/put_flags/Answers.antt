use Rattle.std.proofs.Common.{[], ◌∷◌}
use Rattle.ir_tables.specs.declared.flag.Flag.TheVariants.{Nuw, Nsw, Exact, Disjoint, Nneg, Samesign, Inbounds, Nusw, Volatile}
use Rattle.ir_printer.proofs.OnPhrases.FlagWords.{flag_then, no_flag}
use Rattle.ir_printer.proofs.phrases.flags.put_flags.Goals as goal

pub returns : goal.returns
returns g c =
    let set = c.args.flags in
    flag_then set Nuw (Nsw ∷ Exact ∷ Disjoint ∷ Nneg ∷ Samesign ∷ Inbounds ∷ Nusw ∷ Volatile ∷ []) c.put_flag.ensures
    (flag_then set Nsw (Exact ∷ Disjoint ∷ Nneg ∷ Samesign ∷ Inbounds ∷ Nusw ∷ Volatile ∷ []) c.put_flag-2.ensures
    (flag_then set Exact (Disjoint ∷ Nneg ∷ Samesign ∷ Inbounds ∷ Nusw ∷ Volatile ∷ []) c.put_flag-3.ensures
    (flag_then set Disjoint (Nneg ∷ Samesign ∷ Inbounds ∷ Nusw ∷ Volatile ∷ []) c.put_flag-4.ensures
    (flag_then set Nneg (Samesign ∷ Inbounds ∷ Nusw ∷ Volatile ∷ []) c.put_flag-5.ensures
    (flag_then set Samesign (Inbounds ∷ Nusw ∷ Volatile ∷ []) c.put_flag-6.ensures
    (flag_then set Inbounds (Nusw ∷ Volatile ∷ []) c.put_flag-7.ensures
    (flag_then set Nusw (Volatile ∷ []) c.put_flag-8.ensures
    (flag_then set Volatile [] c.put_flag-9.ensures (no_flag set _)))))))))
