-- Each worked cut is what the definitions say.
use Rattle.std.proofs.Common.{◌≡◌, ◌≢◌, ℕ, suc, ◌*◌, ◌≤◌, ◌<◌, true, false, refl, subst, arith}
use Rattle.sk_insn.specs.declared.operation.Comparison.TheVariants.{Equal, Greater, GreaterOrEqual, CommonBits}
use Rattle.std.specs.Int.Count.{count_trailing_zeros}
use Rattle.sk_insn.specs.Operations.{operation_of}
use Rattle.sk_filter.specs.Meaning.{holds}
use Rattle.sk_filter.specs.WorkedMeanings.{call_of}
use Rattle.sk_survey.specs.Turning.{Turns}
use Rattle.sk_survey.specs.WorkedCuts.{MayHave, WorkedCuts}

yes : true ≢ false
yes e = cc

no : false ≢ true
no e = cc

-- the outcome is the same before
stays : (comparison : _) (k nr before : ℕ) → nr ≡ suc before → holds comparison nr k ≡ holds comparison before k → Turns comparison k nr → ⊥
stays comparison k nr before next same (other, other_next, turns) =
    let is : before ≡ other = omega arith in
    turns (subst (λ n. holds comparison nr k ≡ holds comparison n k) is same)

may_have : (cost most : ℕ) → most * cost ≤ 33554432 → 33554432 < suc most * cost → MayHave cost most
may_have cost most low high cuts alone programs costs = (
  λ many. rw (many, costs) low,
  λ more few. let few' = rw (more, costs) at few in omega arith,
)

pub worked_cuts : WorkedCuts
unfolding operation_of count_trailing_zeros
worked_cuts = record {
  equal_turns_at_its_number = (38, refl, yes);
  and_behind_it = (39, refl, no);
  and_nowhere_else = stays Equal 39 41 40 refl refl;
  greater_turns_behind_it = (39, refl, yes);
  not_at_it = stays Greater 39 39 38 refl refl;
  at_least_turns_at_it = (38, refl, yes);
  not_behind_it = stays GreaterOrEqual 39 40 39 refl refl;
  a_bit_turns_where_it_is_set = (0x3fffffff, refl, yes);
  where_it_is_not = (0x7fffffff, refl, no);
  not_between = stays CommonBits 0x40000000 0x40000001 0x40000000 refl refl;
  few_parts = let low : 26 ≤ 26 = omega arith in low;
  many_parts = λ few. let low : 26 ≤ 25 = few in omega arith;
  tests_the_number = (
    Equal,
    39,
    (
      1,
      record {
        call = call_of 39 0 0;
        other = call_of 40 0 0;
        differ = refl;
        steps = 1;
        s = _;
        t = _;
        come = (0, _, _, (refl, refl, refl), (_, refl, (0, refl, refl, refl)));
        apart = λ e. omega arith;
      },
      (_, refl, (refl, refl)),
    ),
    tt,
    (38, refl, yes),
  );
  tests_what_comes_from_it = (
    5,
    record {
      call = call_of 39 0 0;
      other = call_of 40 0 0;
      differ = refl;
      steps = 5;
      s = _;
      t = _;
      come = (4, _, _, (3, _, _, (2, _, _, (1, _, _, (0, _, _, (refl, refl, refl), (_, refl, (0, refl, refl, refl))), (_, refl, (0, refl, refl, refl))), (_, refl, (0, refl, refl, refl))), (_, refl, (0, refl, refl, refl))), (_, refl, (0, refl, refl, refl)));
      apart = λ e. omega arith;
    },
    (_, refl, (refl, refl)),
  );
  of_the_longest_filter = may_have 4100 8184 (omega arith) (omega arith);
  of_the_longest_chain = may_have 32772 1023 (omega arith) (omega arith);
}
