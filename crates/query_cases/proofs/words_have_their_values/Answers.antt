use mathlib.Core.Path.{refl}
use Rattle.query_cases.proofs.words_have_their_values.Goals as goal

pub returns : goal.returns
returns c =
    record {
      of_col = refl;
      of_lit = refl;
      of_plus = refl;
      of_times = refl;
      of_pick = refl;
      of_less = refl;
      of_equal = refl;
      of_either = refl;
      of_not = refl;
      of_bag = refl;
      of_keep = refl;
      of_put = refl;
      of_pool = refl;
      of_num = refl;
      of_setting = refl;
      of_var = refl;
      of_count = refl;
      of_sum = refl;
      of_add = refl;
      of_sub = refl;
      of_least = refl;
      of_most = refl;
      of_scale = refl;
      of_clip = refl;
      of_let = refl;
    }
