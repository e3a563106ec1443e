use Rattle.path_verify.proofs.verifying.verify.Given as goal

-- a ledger of its own
abbrev pub ghosts-verify_from : goal.ghosts-verify_from
ghosts-verify_from a = record { name = a.blank.name; parts = a.blank.parts }
