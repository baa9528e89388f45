-- The check of an argument's text.
use Prim.Native.Nat.{ℕ, suc, ◌+◌, ◌<◌}
use mathlib.Core.Path.{sym, subst}
use mathlib.Core.List.{[]}
use mathlib.Core.Bool.{Bool, true, false}
use native.Mathlib.Omega.{arith}
use lib.Dec.{T}
use Rattle.text.specs.Text.{◌⊕◌, when, lit, bytes, flat}
use Rattle.combiners.specs.Arguments.{texel_name, constant_row, source_text, replicated, arg_text}
use Rattle.combiners.specs.declared.Source.{Source}
use Rattle.combiners.specs.declared.Source.TheVariants.{Diffuse, Current, Texture, Factor, Specular, Temp, Constant, White}
use Rattle.combiners.specs.declared.Arg.{Arg}
use Rattle.values.specs.Listed.{Name, name}
use Rattle.shader.proofs.Names.Check.{Aim, Known, Holds}
use Rattle.shader.proofs.Names.Frag.{Has, literal, Frag, closed, followed, pick_frag, append}
use Rattle.shader.proofs.Names.Words.{the, Word, family, name_frag, row_scan}
use Rattle.shader.proofs.Names.Templates.{format_frag, text_frag}

-- what every line knows
pub record Base (K : Known) : Type 0 where
  pub is_in : T (K.has (the "in"))
  pub is_current : T (K.has (the "current"))
  pub is_table : T (K.has (the "ps_c"))

pub base_more : {K K' : Known} → Has K K' → Base K → Base K'
base_more u b = record { is_in = u _ b.is_in; is_current = u _ b.is_current; is_table = u _ b.is_table }

abbrev pub texel : ℕ → Name
texel i = name 15 i

pub texel_word : (i : ℕ) → i < 8 → Word (flat (texel_name i)) (texel i)
unfolding texel_name
texel_word = family 15 (bytes "t") (λ b. tt)

-- what an argument of a source needs at stage i
abbrev pub Sure : Aim → Known → ℕ → Source → Type 0
Sure A K i Diffuse = Unit {0}
Sure A K i Current = Unit {0}
Sure A K i Texture = T (K.has (texel i))
Sure A K i Factor = 0 < A.rows
Sure A K i Specular = Unit {0}
Sure A K i Temp = T (K.has (the "temp"))
Sure A K i Constant = suc i < A.rows
Sure A K i White = Unit {0}

module _ {A : Aim} {K : Known} (b : Base K) (i : ℕ) (l : i < 8) where
  constant_frag : suc i < A.rows → Frag A K (constant_row i)
  unfolding constant_row
  constant_frag p =
      closed (λ K' u. literal (λ r k. subst (Holds A K') (sym (row_scan (i + 1) (omega arith) r)) (u _ b.is_table, (omega arith, k))))

  source_frag : (s : Source) → Sure A K i s → Frag A K (source_text i s)
  unfolding source_text
  source_frag Diffuse h = text_frag tt (b.is_in, tt)
  source_frag Current h = text_frag tt (b.is_current, tt)
  source_frag Texture h = name_frag (texel_word i l) h
  source_frag Factor h = text_frag tt (b.is_table, (h, tt))
  source_frag Specular h = text_frag tt (b.is_in, tt)
  source_frag Temp h = text_frag tt (h, tt)
  source_frag Constant h = constant_frag h
  source_frag White h = text_frag tt tt

  replicated_frag : (a : Arg) → Sure A K i a.source → Frag A K (replicated i a)
  unfolding replicated
  replicated_frag a h = go a.replicate
    where
      f : Frag A K (source_text i a.source)
      f = source_frag a.source h

      go : (d : Bool) → Frag A K (source_text i a.source ⊕ when d (lit ".aaaa"))
      go true = record { reads = (followed {t = lit ".aaaa"} f (text_frag tt tt) tt).reads }
      go false = record { reads = λ K' u r s k. append A K' [] (flat (source_text i a.source)) [] r (f.reads K' u r s k) }

  pub arg_frag : (a : Arg) → Sure A K i a.source → Frag A K (arg_text i a)
  unfolding arg_text
  arg_frag a h = let f = replicated_frag a h in pick_frag (λ t. format_frag "(1.0 - {x})" tt (f, tt)) (λ t. f)
