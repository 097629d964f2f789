-- What a clause sees of the allocator: the inner allocator that takes its requests.
use Rattle.refusing.specs.declared.Refusing.{Refusing}

abbrev pub inner_of : {B : Type 0} → Refusing B → B
inner_of heap = heap.inner
