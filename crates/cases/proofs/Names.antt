-- The types of the built-in names.
use Rattle.std.proofs.Common.{Bool, true, false}
use Rattle.cases.specs.Cases.{PlainNames, ClassNames, NoClassNames}
use Rattle.cases.proofs.Classes.{num_number, number_num, ord_lists, lists_ord, eq_lists, lists_eq, steady_lists, lists_steady}

pub plain_names : (c : Bool) → PlainNames c
plain_names true = record { not = λ T. (λ h. h, λ h. h); nil = λ T. (λ h. h, λ h. h); cons = λ T. (λ h. h, λ h. h) }
plain_names false = record { not = λ T. (λ h. h, λ h. h); nil = λ T. (λ h. h, λ h. h); cons = λ T. (λ h. h, λ h. h) }

pub class_names : ClassNames
class_names = record {
  add = λ T. (λ h. (h.0, num_number h.0 h.1, h.2), λ h. (h.0, number_num h.0 h.1, h.2));
  neg = λ T. (λ h. (h.0, num_number h.0 h.1, h.2), λ h. (h.0, number_num h.0 h.1, h.2));
  less = λ T. (λ h. (h.0, ord_lists h.0 h.1, h.2), λ h. (h.0, lists_ord h.1, h.2));
  equal = λ T. (λ h. (h.0, eq_lists h.0 h.1, h.2), λ h. (h.0, lists_eq h.1, h.2));
  hold = λ T. (λ h. (h.0, steady_lists h.0 h.1, h.2), λ h. (h.0, lists_steady h.1, h.2));
}

pub no_class_names : NoClassNames
no_class_names = record {
  add = λ T. (λ h. h, λ h. absurd h);
  neg = λ T. (λ h. h, λ h. absurd h);
  less = λ T. (λ h. h, λ h. absurd h);
  equal = λ T. (λ h. h, λ h. absurd h);
  hold = λ T. (λ h. h, λ h. absurd h);
}
