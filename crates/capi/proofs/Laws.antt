-- The law of the numbers that C is given: by that of the flags, and by computing. Assumes nothing.
use mathlib.Core.Path.{refl}
use Rattle.flags.proofs.Flags as flags
use Rattle.calls.specs.Replies.{refusal_of}
use Rattle.capi.specs.Laws.{Laws}

pub laws : Laws
laws = record {
  flags = record {
    of_reading = λ r. (flags.claims).flags r.number;
    of_installing = λ o. (flags.claims).flags (refusal_of o.reply);
    of_calls = λ o. (flags.claims).flags (refusal_of o.reply);
    of_delivering = λ o. (flags.claims).flags (refusal_of o.reply);
  };
  values = record {
    rule = λ r. refl;
    install_accepted = λ s m j. refl;
    install_refused = λ x j. refl;
    call_accepted = λ j. refl;
    call_refused = λ x j. refl;
    deliver_accepted = λ n j. refl;
    deliver_refused = λ x j. refl;
  };
  kinds = record {
    refused_is_0 = λ x b q m. (refl, refl);
    waiting_is_1 = λ empty b q m. (refl, refl);
    yes_is_2 = λ count b q m. (refl, refl);
    no_is_3 = λ count b q m. (refl, refl);
    malformed_is_4 = λ i. refl;
  };
}
