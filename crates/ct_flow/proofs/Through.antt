-- A register jump that no check refuses, and that leaves the posture.
use Rattle.std.proofs.Common.{ℕ, ◌≡◌, Some, None, Ok, refl}
use Rattle.def_words.specs.declared.Cap.{Cap}
use Rattle.def_words.specs.declared.Posture.{Posture}
use Rattle.def_words.specs.Capability.{with_address}
use Rattle.def_words.specs.Jumped.{opened, return_link}
use Rattle.def_words.specs.Seals.{cap_seal, posture_through}
use Rattle.def_step.specs.Checks.{first_failed}
use Rattle.def_step.specs.Jumps.{register_jump_checks, register_jumped, register_target}

pub goes_through : (to at : ℕ) (x : Cap) (n : ℕ) (pcc : Cap) (before : Posture) (named : ℕ)
    → first_failed (register_jump_checks to at x n) ≡ None
    → posture_through before (cap_seal x) named x.shadow.source ≡ before
    → register_jumped to at x n pcc before named
    ≡ Ok (record { link = Some (return_link pcc before); pcc = with_address (opened x) (register_target x n); posture = before })
goes_through to at x n pcc before named passes keeps = rw (passes, keeps) refl
