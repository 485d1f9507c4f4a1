-- The faults of systems: each case with its number, the layer that finds it, and the words that are shown of it.
use Rattle.std.specs.Prelude.{ℕ, List, Some, None, Option, codes}
use Rattle.system.specs.declared.fault.SystemFault.{SystemFault}
use Rattle.system.specs.declared.fault.SystemFault.TheVariants.{NoClasses, Clash, Cyclic, NoCells, Unknown, TooManyMarks}
use Rattle.system.specs.declared.fault.NewFault.{NewFault}
use Rattle.system.specs.declared.fault.NewFault.TheVariants.{Capacity, Memory}
use Rattle.system.specs.declared.fault.ClassFault.{ClassFault}
use Rattle.system.specs.declared.fault.ClassFault.TheVariants.{NotInClass, NoMember, TooManyClasses, Unknown as BadClass, TooManyMarks as MarksAbove}
use Rattle.system.specs.declared.layer_fault.LayerFault.{LayerFault}
use Rattle.system.specs.declared.layer_fault.LayerFault.TheVariants.{Below, Own}

-- What a bottom system finds: a demand without classes, heads that differ, a value in itself, no cell left, an unknown or wrong code, head, sort, class,
-- label or mark, one mark too many.
abbrev pub system_number : SystemFault → ℕ
system_number NoClasses = 11
system_number Clash = 12
system_number Cyclic = 13
system_number NoCells = 16
system_number Unknown = 21
system_number TooManyMarks = 23

-- The bottom system is layer 4.
abbrev pub system_layer : SystemFault → ℕ
system_layer f = 4

-- In words.
abbrev pub system_words : SystemFault → List ℕ
system_words NoClasses = codes "no class is known here"
system_words Clash = codes "two heads differ"
system_words Cyclic = codes "a value would be a part of itself"
system_words NoCells = codes "no room is left"
system_words Unknown = codes "a code, head, sort, label or class that is not known or does not fit"
system_words TooManyMarks = codes "as many marks are open as can be"

-- What the class layer finds: a head outside a class, classes without a common member, too many open codes with a class, a bad class, one mark too many.
abbrev pub class_number : ClassFault → ℕ
class_number NotInClass = 14
class_number NoMember = 15
class_number TooManyClasses = 17
class_number BadClass = 21
class_number MarksAbove = 23

-- The class layer is layer 3.
abbrev pub class_layer : ClassFault → ℕ
class_layer f = 3

-- In words.
abbrev pub class_words : ClassFault → List ℕ
class_words NotInClass = codes "the value is not in the class"
class_words NoMember = codes "no value is in all of the classes"
class_words TooManyClasses = codes "over 128 open codes would have a class"
class_words BadClass = codes "a code, head, sort, label or class that is not known or does not fit"
class_words MarksAbove = codes "as many marks are open as can be"

-- A fault of a layer has the number that it has where it was found.
abbrev pub layer_number : {F : Type 0} → (F → ℕ) → LayerFault F → ℕ
layer_number number (Below f) = number f
layer_number number (Own f) = class_number f

-- And the layer that found it.
abbrev pub layer_layer : {F : Type 0} → (F → ℕ) → LayerFault F → ℕ
layer_layer layer (Below f) = layer f
layer_layer layer (Own f) = class_layer f

-- And the words.
abbrev pub layer_words : {F : Type 0} → (F → Option (List ℕ)) → LayerFault F → Option (List ℕ)
layer_words words (Below f) = words f
layer_words words (Own f) = Some (class_words f)

-- Building a system finds a capacity outside 16 to 4,096; want of memory has no number.
abbrev pub new_number : NewFault → Option ℕ
new_number Capacity = Some 1
new_number Memory = None

-- It is the bottom system's.
abbrev pub new_layer : NewFault → ℕ
new_layer f = 4

-- In words.
abbrev pub new_words : NewFault → List ℕ
new_words Capacity = codes "the cells must be 16 to 4096"
new_words Memory = codes "the memory is not to be had"
