use Rattle.sk_survey.proofs.told.arches.Goals as goal

pub returns : goal.returns
returns c =
    record {
      told = record {
        answered = c.in_ok-all.ensures.each;
        other = c.in_ok-other.ensures.other;
        i386 = c.in_ok-i386.ensures.misjudged;
        x32 = c.in_ok-x32.ensures.misjudged;
      };
    }
