use Rattle.std.proofs.Common.{◌≡◌, ℕ, ◌<◌, inl, inr, Option, Some, length, slice_get, ap, set, length-set, subst, sym, ◌∙◌, arith}
use Rattle.std.proofs.lemmas.Bool.{cases_eq}
use Rattle.std.proofs.lemmas.Option.{slice_get-get_or}
use Rattle.sk_insn.specs.declared.record.Record.{Record}
use Rattle.sk_survey.specs.Following.{DescribesWord}
use Rattle.sk_survey.proofs.KnownWords.{word_at, word_apart, same_at, word_joined, word_set, word_known}
use Rattle.sk_survey.proofs.known.join_words.Goals as goal

pub loop-k-preserved : goal.loop-k-preserved
loop-k-preserved c =
    let k = c.loop-k.k in
    let words = c.loop-k.words in
    let others = c.args.others.now in
    let known = c.join.result in
    let inside : k < length words = let sized = c.loop-k.invariant.sized in omega arith in
    let inside' : k < length others = omega arith in
    let kept = λ (j : ℕ) (call : Record) (word : Option ℕ) (is : DescribesWord (slice_get words j) call word).
    word_joined words k j known _ call word inside (λ n. c.join.ensures.one call n) is in
    let sized : length (set words k known) ≡ 16 = length-set words k known ∙ c.loop-k.invariant.sized in
    record {
      sized = sized;
      one = λ j below call word is. kept j call word (c.loop-k.invariant.one j below call word is);
      other = λ j below call word is. elim (cases_eq j k) as (λ _. DescribesWord (slice_get (set words k known) j) call word) [
        | inl same ↦
            subst (λ i. DescribesWord (slice_get (set words k known) i) call word) (sym same)
            (word_set words k known call word inside
            (word_known others k known _ call word inside' (λ n. c.join.ensures.other call n)
            (subst (λ i. DescribesWord (slice_get others i) call word) same is)))
        | inr other ↦ kept j call word (c.loop-k.invariant.other j (omega arith) call word is)
      ];
      common = λ j e. elim (cases_eq j k) as (λ _. slice_get (set words k known) j ≡ slice_get c.args.words.now j) [
        | inl same ↦
            let here : slice_get words k ≡ slice_get others k =
            c.loop-k.invariant.rest k (omega arith) ∙ subst (λ i. slice_get c.args.words.now i ≡ slice_get others i) same e in
            subst (λ i. slice_get (set words k known) i ≡ slice_get c.args.words.now i) (sym same)
            (word_at words k known inside
            ∙ ap Some (c.join.ensures.same (same_at words others k _ _ inside inside' here))
            ∙ sym (slice_get-get_or words k _ inside)
            ∙ c.loop-k.invariant.rest k (omega arith))
        | inr other ↦ word_apart words k j known other ∙ c.loop-k.invariant.common j e
      ];
      rest = λ j after. word_apart words k j known (λ e. omega arith) ∙ c.loop-k.invariant.rest j (omega arith);
    }
