-- Paths and texts that are worked out by hand.
use Rattle.std.specs.Prelude.{ℕ, ◌≡◌, ◌+◌, ◌^◌, List, [], ◌∷◌, ◌++◌, map, codes, Some, None}
use Rattle.sk_insn.specs.declared.insn.Insn.{Insn}
use Rattle.sk_insn.specs.declared.operation.Register.TheVariants.{Accumulator}
use Rattle.sk_insn.specs.declared.operation.Operand.TheVariants.{Constant, IndexRegister}
use Rattle.sk_insn.specs.declared.operation.Arithmetic.TheVariants.{Divide}
use Rattle.sk_insn.specs.declared.operation.Comparison.TheVariants.{Equal, Greater, GreaterOrEqual, CommonBits}
use Rattle.sk_insn.specs.declared.operation.Operation.TheVariants.{LoadRecord, LoadConstant, Compute, Jump, Branch, ReturnConstant, CopyToIndex}
use Rattle.sk_names.specs.declared.architecture.Architecture.TheVariants as architecture
use Rattle.sk_filter.specs.WorkedMeanings.{call_of, compares, does, getpid, refuses_getppid}
use Rattle.sk_show.specs.declared.held.Held.TheVariants.{Number, Other}
use Rattle.sk_show.specs.declared.tracing.Step.{Step}
use Rattle.sk_show.specs.Paths.{path_of}
use Rattle.sk_show.specs.PathText.{compared_text, filter_text, filters_text, verdict_line}

-- the places of a path
abbrev pub places : List Step → List ℕ
places path = map (λ step. step.place) path

-- the same words are compared before and behind A loads the call's number, and behind A has changed
abbrev pub compares_thrice : List Insn
compares_thrice =
    compares (Branch Equal Constant) 1 0 0 ∷
    does LoadRecord 0 ∷
    compares (Branch Greater Constant) 1 1 0 ∷
    does ReturnConstant 0 ∷
    does CopyToIndex 0 ∷
    compares (Branch GreaterOrEqual IndexRegister) 0 0 0 ∷
    compares (Branch CommonBits Constant) 6 0 0 ∷
    does LoadRecord 16 ∷
    compares (Branch Equal Constant) 39 0 0 ∷
    does Jump 1 ∷
    does ReturnConstant 0 ∷
    does ReturnConstant 0x7fff0000 ∷
    []

pub record WorkedPaths : Type 0 where
  pub passes_over_the_other_side : places (path_of refuses_getppid getpid) ≡ 0 ∷ 1 ∷ 3 ∷ []
  pub refuses :
      filter_text architecture.X86_64 1 refuses_getppid (call_of 110 0 0)
      ≡ codes "filter 1\n"
      ++ (codes "   0 ldabs 0                  A=110 X=0\n"
      ++ (codes "   1 jeq 110 +0 +1            A=110 X=0  110 == 110 getppid: to 2\n"
      ++ (codes "   2 ret 0x00050001           A=110 X=0\n"
      ++ codes "  errno/1 EPERM\n")))
  pub passes_others :
      filter_text architecture.X86_64 0 refuses_getppid getpid
      ≡ codes "filter 0\n"
      ++ (codes "   0 ldabs 0                  A=39 X=0\n"
      ++ (codes "   1 jeq 110 +0 +1            A=39 X=0  39 != 110 getppid: to 3\n"
      ++ (codes "   3 ret 0x7fff0000           A=39 X=0\n"
      ++ codes "  allow\n")))
  pub names_what_the_number_is_compared_with :
      filter_text architecture.X86_64 0 compares_thrice (call_of 39 0 39)
      ≡ codes "filter 0\n"
      ++ (codes "   0 jeq 1 +0 +0              A=0 X=0  0 != 1: to 1\n"
      ++ (codes "   1 ldabs 0                  A=39 X=0\n"
      ++ (codes "   2 jgt 1 +1 +0              A=39 X=0  39 > 1 write: to 4\n"
      ++ (codes "   4 tax                      A=39 X=39\n"
      ++ (codes "   5 jgex +0 +0               A=39 X=39  39 >= 39 getpid: to 6\n"
      ++ (codes "   6 jset 6 +0 +0             A=39 X=39  39 & 6 != 0: to 7\n"
      ++ (codes "   7 ldabs 16                 A=39 X=39\n"
      ++ (codes "   8 jeq 39 +0 +0             A=39 X=39  39 == 39: to 9\n"
      ++ (codes "   9 ja +1                    A=39 X=39  to 11\n"
      ++ (codes "  11 ret 0x7fff0000           A=39 X=39\n"
      ++ codes "  allow\n"))))))))))
  pub names_calls_of_the_architecture :
      filter_text architecture.I386 0 refuses_getppid (record { nr = 64; arch = 1073741827; ip = 0; args = [] })
      ≡ codes "filter 0\n"
      ++ (codes "   0 ldabs 0                  A=64 X=0\n"
      ++ (codes "   1 jeq 110 +0 +1            A=64 X=0  64 != 110 iopl: to 3\n"
      ++ (codes "   3 ret 0x7fff0000           A=64 X=0\n"
      ++ codes "  allow\n")))
  pub is_equal : compared_text architecture.X86_64 Other Equal 5 5 ≡ codes "5 == 5"
  pub is_another : compared_text architecture.X86_64 Other Equal 5 6 ≡ codes "5 != 6"
  pub is_greater : compared_text architecture.X86_64 Other Greater 6 5 ≡ codes "6 > 5"
  pub is_not_greater : compared_text architecture.X86_64 Other Greater 5 5 ≡ codes "5 <= 5"
  pub is_at_least : compared_text architecture.X86_64 Other GreaterOrEqual 5 5 ≡ codes "5 >= 5"
  pub is_less : compared_text architecture.X86_64 Other GreaterOrEqual 4 5 ≡ codes "4 < 5"
  pub has_a_bit : compared_text architecture.X86_64 Other CommonBits 6 4 ≡ codes "6 & 4 != 0"
  pub has_none : compared_text architecture.X86_64 Other CommonBits 3 4 ≡ codes "3 & 4 == 0"
  pub names_none_without_the_bit_of_x32 :
      compared_text architecture.X32 Number Equal 110 110 ≡ codes "110 == 110"
  pub names_one_with_it :
      compared_text architecture.X32 Number Equal 110 (2 ^ 30 + 110) ≡ codes "110 != 1073741934 getppid"
  pub ends_at_a_division_by_zero :
      filter_text architecture.X86_64 12 (does (LoadConstant Accumulator) 5 ∷ does (Compute Divide IndexRegister) 0 ∷ does ReturnConstant 0x7fff0000 ∷ []) getpid
      ≡ codes "filter 12\n"
      ++ (codes "   0 ldimm 5                  A=5 X=0\n"
      ++ (codes "   1 divx                     A=5 X=0\n"
      ++ codes "  kill_thread\n"))
  pub newest_first :
      filters_text architecture.X86_64 ((does ReturnConstant 0x00030005 ∷ []) ∷ (does ReturnConstant 0x7fff0000 ∷ []) ∷ []) getpid
      ≡ codes "filter 1\n   0 ret 0x00030005           A=0 X=0\n  trap/5\n"
      ++ codes "filter 0\n   0 ret 0x7fff0000           A=0 X=0\n  allow\n"
  pub by_the_newest : verdict_line 0x00030005 (Some (1, 0)) ≡ codes "trap/5 by filter 1 at 0\n"
  pub by_none : verdict_line 0x7fff0000 None ≡ codes "allow\n"
