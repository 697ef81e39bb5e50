-- Worked programs, judged by the definitions alone.
use Rattle.std.specs.Prelude.{ℕ, ◌≡◌, [], ◌∷◌, Some, None}
use Rattle.sk_insn.specs.declared.insn.Insn.{Insn}
use Rattle.sk_filter.specs.declared.fault.CheckFault.TheVariants.{Empty, Code, Load, DivZero, Shift, Word, Jump, NoReturn, Unstored}
use Rattle.sk_filter.specs.FirstFault.{first_fault}

-- an instruction that uses its constant alone, by its code in the kernel's linux/bpf_common.h
abbrev pub plain : ℕ → ℕ → Insn
plain code k = record { code = code; jt = 0; jf = 0; k = k }

abbrev pub ldabs : ℕ → Insn
ldabs k = plain 0x20 k

abbrev pub ldimm : ℕ → Insn
ldimm k = plain 0x00 k

abbrev pub ldmem : ℕ → Insn
ldmem k = plain 0x60 k

abbrev pub st : ℕ → Insn
st k = plain 0x02 k

abbrev pub ja : ℕ → Insn
ja k = plain 0x05 k

abbrev pub jeq : ℕ → ℕ → ℕ → Insn
jeq k jt jf = record { code = 0x15; jt = jt; jf = jf; k = k }

abbrev pub ret : Insn
ret = plain 0x06 0x7fff0000

abbrev pub reta : Insn
reta = plain 0x16 0

abbrev pub tax : Insn
tax = plain 0x07 0

pub record WorkedPrograms : Type 0 where
  pub nothing : first_fault [] ≡ Some Empty
  pub last_argument : first_fault (ldabs 60 ∷ ret ∷ []) ≡ None
  pub between_words : first_fault (ldabs 62 ∷ ret ∷ []) ≡ Some (Load 0)
  pub past_the_record : first_fault (ldabs 64 ∷ ret ∷ []) ≡ Some (Load 0)
  pub no_packet : first_fault (plain 0x30 0 ∷ ret ∷ []) ≡ Some (Code 0)
  pub divides_by_zero : first_fault (plain 0x34 0 ∷ ret ∷ []) ≡ Some (DivZero 0)
  pub shifts_by_32 : first_fault (plain 0x64 32 ∷ ret ∷ []) ≡ Some (Shift 0)
  pub word_16 : first_fault (st 16 ∷ ret ∷ []) ≡ Some (Word 0)
  pub lands_on_the_last : first_fault (jeq 0 0 0 ∷ ret ∷ []) ≡ None
  pub lands_past_the_end : first_fault (jeq 0 1 0 ∷ ret ∷ []) ≡ Some (Jump 0)
  pub wraps_nowhere : first_fault (ja 0xffffffff ∷ ret ∷ []) ≡ Some (Jump 0)
  pub no_return : first_fault (ret ∷ tax ∷ []) ≡ Some NoReturn
  pub one_side_stores : first_fault (ldabs 0 ∷ jeq 39 0 1 ∷ st 4 ∷ ldmem 4 ∷ reta ∷ []) ≡ Some (Unstored 3 4)
  pub both_sides_store : first_fault (ldabs 0 ∷ jeq 39 0 2 ∷ st 4 ∷ ja 1 ∷ st 4 ∷ ldmem 4 ∷ reta ∷ []) ≡ None
  -- the value would always take the side that stores
  pub both_sides_count : first_fault (ldimm 1 ∷ jeq 1 0 1 ∷ st 0 ∷ ldmem 0 ∷ reta ∷ []) ≡ Some (Unstored 3 0)
  pub stored_on_the_way : first_fault (ldimm 7 ∷ st 0 ∷ jeq 7 1 0 ∷ ret ∷ ldmem 0 ∷ reta ∷ []) ≡ None
  pub unreached_load : first_fault (ret ∷ ldmem 3 ∷ ret ∷ []) ≡ None
  pub unreached_place : first_fault (ldimm 1 ∷ st 0 ∷ ja 1 ∷ ja 0 ∷ ldmem 0 ∷ reta ∷ []) ≡ None
  pub jump_before_load : first_fault (ldmem 0 ∷ ja 9 ∷ ret ∷ []) ≡ Some (Jump 1)
  pub end_before_load : first_fault (ldmem 0 ∷ tax ∷ []) ≡ Some NoReturn
  pub least_load : first_fault (ldmem 3 ∷ ldmem 2 ∷ reta ∷ []) ≡ Some (Unstored 0 3)
