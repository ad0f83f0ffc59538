use Rattle.std.proofs.Common.{ℕ, zero, suc, ◌<◌, [], length, get_or, pos, refl, ap, subst, arith}
use Rattle.sources.specs.Source.{Fits}
use Rattle.std.specs.List.{AllByRecursion}
use Rattle.trees.specs.Meaning.{number, value}
use Rattle.rules.specs.Catalogue.{setting_range}
use Rattle.rules.specs.Sound.{Fitting, Plant, RulesKeep, inputs_of}
use Rattle.rules.specs.declared.catalogue.Catalogue.{Catalogue}
use Rattle.rules.proofs.Bags.{RowsFit, bag_kept}
use Rattle.rules.proofs.Bounds.{In, in_within, within_in}
use Rattle.rules.proofs.Numbers.{number_kept}
use Rattle.rules.proofs.Terms.{term_kept}
use Rattle.rules.proofs.laws.rules_keep_values_in_range.Goals as goal

module _ (c : Catalogue) (p : Plant) (f : Fitting c p) where
  rows_fit : (k : ℕ) → k < 2 → RowsFit c (inputs_of p) k
  rows_fit zero h =
      let s = f.first_shape in
      let l = f.first_lawful in
      record {
        some_rows = subst (λ cs. AllByRecursion (Fits cs) p.first.rows) s.columns l.rows_fit;
        few_rows = omega (arith, l.in_limit, s.limit);
        few_columns = omega (arith, ap length s.columns, l.all_columns, l.few_columns);
      }
  rows_fit (suc zero) h =
      let s = f.second_shape in
      let l = f.second_lawful in
      record {
        some_rows = subst (λ cs. AllByRecursion (Fits cs) p.second.rows) s.columns l.rows_fit;
        few_rows = omega (arith, l.in_limit, s.limit);
        few_columns = omega (arith, ap length s.columns, l.all_columns, l.few_columns);
      }
  rows_fit (suc (suc k)) h = absurd (omega arith)

  settings_fit : (k : ℕ) → k < 2 → In (setting_range c k) (get_or (inputs_of p).settings k (pos 0))
  settings_fit zero h = within_in (setting_range c 0) p.setting_0 f.first_setting
  settings_fit (suc zero) h = within_in (setting_range c 1) p.setting_1 f.second_setting
  settings_fit (suc (suc k)) h = absurd (omega arith)

rules_keep : RulesKeep
rules_keep c p f =
    let i = inputs_of p in
    record {
      terms = λ n cs t x few e. record { inside = λ r fit. in_within x (value t r) (term_kept cs few r fit t n x e).0; calm = λ r fit. (term_kept cs few r fit t n x e).1 };
      bags = λ n b x e. bag_kept c i (rows_fit c p f) b n x e;
      numbers = λ n t x e. let k = number_kept c i (rows_fit c p f) (settings_fit c p f) t [] [] tt n x e in record { inside = in_within x.range (number t i []) k.0; calm = k.1 };
    }

pub returns : goal.returns
returns c =
    record {
      keep = rules_keep;
      examples = record { clipped_sum = refl; narrow_sum = refl; named_count = refl; clipped_setting = refl; lesser_count = refl; at_the_bound = refl; past_the_bound = refl; no_such_column = refl };
    }
